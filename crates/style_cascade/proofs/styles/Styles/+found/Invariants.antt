use Rattle.style_cascade.proofs.styles.Styles.+found.Given as goal

abbrev pub decreases-found : goal.decreases-found
decreases-found l = l.node.0

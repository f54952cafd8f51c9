use Rattle.style_cascade.specs.declared.states.State.TheVariants as states
use Rattle.document_tests.proofs.objects.write.Goals as goal

pub set_node-set-requires : goal.set_node-set-requires
set_node-set-requires g c = record { right = ((λ node. states.Normal), c.requires (λ node. states.Normal)) }

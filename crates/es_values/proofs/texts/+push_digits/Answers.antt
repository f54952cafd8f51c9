use Rattle.std.proofs.Common.{ap, ◌∙◌}
use Rattle.es_values.proofs.DecimalLemmas.{behind-one, behind-more}
use Rattle.es_values.proofs.texts.+push_digits.Goals as goal
use Rattle.es_values.proofs.texts.+push_digits.Goals.{then-number-ge10+in_ok-push_digits, else-number-ge10}

pub returns : goal.returns
returns t c =
    c.in_ok-push.ensures.items
    ∙ elim c.if-number-ge10.branch [
      | then-number-ge10+in_ok-push_digits w ↦
          let front = ap (λ out. out.items) w.out-is ∙ w.in_ok-push_digits.ensures in
          behind-more c.args.out.now.items c.if-number-ge10.out.items c.args.number w.if-number-ge10.true front
      | else-number-ge10 w ↦ behind-one c.args.out.now.items c.if-number-ge10.out.items c.args.number w.if-number-ge10.false (ap (λ out. out.items) w.out-is)
    ]

use Rattle.std.proofs.Common.{◌≡◌, List, ◌++◌, append_assoc}
use Rattle.multipart_entities.specs.Paths.{path_text}
use Rattle.multipart_entities.proofs.paths.Path.push.Goals as goal

-- body parts that are put behind a list, one after another
in_order : {A : Type 0} (out one two three four five : List A) → (((((out ++ one) ++ two) ++ three) ++ four) ++ five) ≡ out ++ (one ++ (two ++ (three ++ (four ++ five))))
in_order out one two three four five = simp append_assoc

pub returns-clause-ok : goal.returns-clause-ok
unfolding path_text
returns-clause-ok c =
    rw (c.in_ok-push_name.ensures.ok, c.in_ok-push_hex-2.ensures.ok, c.in_ok-push_word-2.ensures.ok, c.in_ok-push_hex.ensures.ok, c.in_ok-push_word.ensures.ok, c.from.ensures, c.from-2.ensures)
    (in_order c.args.out.now.items _ _ _ _ _)

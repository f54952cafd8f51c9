use Rattle.std.proofs.Common.{◌≡◌, ℕ, ◌+◌, ◌<◌, ◌≤◌, List, length, take, drop, get_or, sym, ◌∙◌, arith}
use Rattle.std.proofs.lemmas.List.{same_lists, length-take-le, length-drop, get_or-take, get_or-drop, get_or_default}
use Rattle.ts_packets.proofs.buffer.move_to_front.Goals as goal

moved : (old new : List ℕ) (start count : ℕ) → start + count ≤ length old → length new ≡ length old
    → ((k : ℕ) → k < count → get_or new k 0 ≡ get_or old (start + k) 0) → take count new ≡ take count (drop start old)
moved old new start count within len each =
    let len_new : length (take count new) ≡ count = length-take-le count new (omega arith) in
    let len_old : length (take count (drop start old)) ≡ count = length-take-le count (drop start old) (omega (arith, length-drop start old)) in
    same_lists _ _ (len_new ∙ sym len_old)
    (λ k d below.
    let k_in : k < count = omega arith in
    get_or_default (take count new) k d 0 below
    ∙ (get_or-take count new k 0 k_in
    ∙ (each k k_in
    ∙ (sym (get_or-drop start old k 0)
    ∙ (sym (get_or-take count (drop start old) k 0 k_in)
    ∙ get_or_default (take count (drop start old)) k 0 d (omega arith))))))

pub returns-clause-moved : goal.returns-clause-moved
returns-clause-moved c =
    moved _ _ c.args.start c.args.count c.requires.within c.loop-place.auto.bytes
    (λ k below. c.loop-place.invariant.0 k (omega arith))

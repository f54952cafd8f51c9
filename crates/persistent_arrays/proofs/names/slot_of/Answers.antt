use Rattle.std.proofs.Common.{ℕ, None, rules}
use Rattle.std.specs.Prelude.{MatchOption}
use Rattle.persistent_arrays.specs.Names.{Names}
use Rattle.persistent_arrays.proofs.NameLemmas.{few-arrays, read-array_named, slot-read}
use Rattle.persistent_arrays.proofs.names.slot_of.Goals as goal

pub returns : goal.returns
returns c =
    let names : MatchOption c.array_number.result ((slot : ℕ) → ¬ Names c.args.name.now slot) (λ slot. Names c.args.name.now slot) =
    slot-read c.args.name.now c.codes-codes.result.now c.split_at.result.0.now c.split_at.result.1.now c.array_number.result c.codes-codes.ensures c.split_at.ensures.front c.split_at.ensures.back (search rules) c.array_number.ensures in
    record { names = names; named = read-array_named c.args.name.now c.array_number.result names; bound = few-arrays c.args.name.now c.array_number.result names }

pub returns-then-not-is_word-clause-named : goal.returns-then-not-is_word-clause-named
returns-then-not-is_word-clause-named c =
    let none : (slot : ℕ) → ¬ Names c.args.name.now slot = search rules in
    read-array_named c.args.name.now None none

pub returns-then-codes-clause-named : goal.returns-then-codes-clause-named
returns-then-codes-clause-named c =
    let none : (slot : ℕ) → ¬ Names c.args.name.now slot = search rules in
    read-array_named c.args.name.now None none

use Rattle.std.proofs.Common.{◌≡◌, sym, ap₂, subst, rules}
use Rattle.document_cache.specs.Caching.{brought_to_front}
use Rattle.std.specs.Prelude.{All}
use Rattle.document_load.specs.ToldDocuments.{told_document}
use Rattle.page.specs.contracts.memory.Memory.{the_view}
use Rattle.page.specs.devices.Memories.{HasPlaces, HasUsedAgain, MemoryState, memory_with}
use Rattle.page.proofs.MemoryLaws.{FitsPlaces, entry_under, places_found, places_in_front}
use Rattle.page.proofs.memory.Memory.use_again.Goals as goal

pub invariant_of-self : goal.invariant_of-self
invariant_of-self c = let front : c.find.follows.lender-at-none ≡ brought_to_front c.args.key.now c.self.inside.cache = search rules in
    subst (All FitsPlaces) (sym front) (places_in_front c.args.key.now c.self.inside.cache c.self.invariant)

pub invariant_of-self-in_err-document : goal.invariant_of-self-in_err-document
invariant_of-self-in_err-document c = let front : c.find.follows.lender-at-none ≡ brought_to_front c.args.key.now c.self.inside.cache = search rules in
    subst (All FitsPlaces) (sym front) (places_in_front c.args.key.now c.self.inside.cache c.self.invariant)

pub invariant_of-self-2 : goal.invariant_of-self-2
invariant_of-self-2 c = let front : c.find.follows.lender-at-none ≡ brought_to_front c.args.key.now c.self.inside.cache = search rules in
    subst (All FitsPlaces) (sym front) (places_in_front c.args.key.now c.self.inside.cache c.self.invariant)

pub returns-clause-used : goal.returns-clause-used
returns-clause-used c =
    let front : c.find.follows.lender-at-none ≡ brought_to_front c.args.key.now c.self.inside.cache = search rules in
    subst (λ (old : MemoryState). HasUsedAgain c.args.key.now (told_document c.in_ok-document.document) old (the_view (record { cache = c.find.follows.lender-at-none; hits = c.saturating_add-self-inside.result }))) c.self.view_is (record {
      entry = entry_under c.args.key.now c.in-Some.cached.now;
      found = sym c.in-Some.ensures.found;
      copied = c.in_ok-document.ensures {u = tt};
      new_is = ap₂ memory_with front c.saturating_add-self-inside.ensures;
    })

pub returns-clause-places : goal.returns-clause-places
returns-clause-places c =
    subst HasPlaces (sym (c.in_ok-document.ensures {u = tt})) (places_found c.args.key.now c.self.inside.cache (entry_under c.args.key.now c.in-Some.cached.now) (sym c.in-Some.ensures.found) c.self.invariant)

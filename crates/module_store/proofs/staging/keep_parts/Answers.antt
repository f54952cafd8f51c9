use Rattle.std.proofs.Common.{◌≡◌, ◌∙◌, ℕ, List, Option, Some, false, ap, sym, subst, refl}
use Rattle.std.specs.Prelude.{option_map, Result, Ok, Err, OnErr}
use Rattle.std.specs.Option.{option_map_or}
use Rattle.std.proofs.lemmas.Result.{on_ok_weaker}
use Rattle.carousel_blocks.specs.Staging.{made_whole}
use Rattle.multipart_entities.specs.declared.parts.Part.{Part}
use Rattle.module_store.specs.Resources.{holds_entity}
use Rattle.module_store.specs.Entities.{ArePartsOf}
use Rattle.module_store.proofs.WholeLaws.{stages_none, stages_put}
use Rattle.module_store.proofs.CompletedLaws.{completes, none_completed}
use Rattle.module_store.proofs.staging.keep_parts.Goals as goal

on_err : {A E : Type 0} (result : Result A E) (P : Type 0) → P → OnErr result P
on_err (Ok a) P h = tt
on_err (Err e) P h = h

same_parts : (whole : Option (ℕ × List ℕ)) (number other : ℕ) (bytes others : List ℕ) (parts : Option (List Part)) → whole ≡ Some (number, bytes) → whole ≡ Some (other, others) → ArePartsOf bytes parts → ArePartsOf others parts
same_parts whole number other bytes others parts a b are =
    let p : ◌≡◌ {A = Option (ℕ × List ℕ)} (Some (number, bytes)) (Some (other, others)) = sym a ∙ b in
    let q : ◌≡◌ {A = ℕ × List ℕ} (number, bytes) (other, others) = cc in
    subst (λ l. ArePartsOf l parts) (ap (λ (w : ℕ × List ℕ). w.1) q) are

held_parts : (bytes is : List ℕ) (held : Option (List ℕ)) (parts : Option (List Part)) → Some bytes ≡ held → held ≡ Some is → ArePartsOf bytes parts → ArePartsOf is parts
held_parts bytes is held parts a b are = let p : ◌≡◌ {A = Option (List ℕ)} (Some bytes) (Some is) = a ∙ b in let q : bytes ≡ is = cc in subst (λ l. ArePartsOf l parts) q are

pub returns-in_default-clause-kept : goal.returns-in_default-clause-kept
returns-in_default-clause-kept c = λ messages section stands are. record {
  whole = λ number info bytes low made told holds. absurd (none_completed c.law_of_messages.ensures messages section c.args.told.now are c.in_default.ensures number bytes low made);
  others = λ number differ. refl;
}

pub returns-then-not-is_entity-clause-kept : goal.returns-then-not-is_entity-clause-kept
returns-then-not-is_entity-clause-kept c = λ messages section stands are.
    let k = completes c.law_of_messages.ensures messages section c.args.told.now are c.in-Some.module c.in-Some.ensures in
    stages_none c.args.entities.now c.args.entities.now messages section c.in-Some.module (sym (ap (λ o. option_map (λ whole. whole.0) o) k.made))
    (c.if-not-is_entity.ensures _ stands ∙ ap (λ o. option_map_or holds_entity o false) k.info)

pub returns-in_default-bytes_of-clause-kept : goal.returns-in_default-bytes_of-clause-kept
returns-in_default-bytes_of-clause-kept c = λ messages section stands are.
    let k = completes c.law_of_messages.ensures messages section c.args.told.now are c.in-Some.module c.in-Some.ensures in
    absurd (let p = c.in_default-bytes_of.ensures _ stands ∙ k.is_held in cc)

pub returns-in_err-parts-clause-whole : goal.returns-in_err-parts-clause-whole
returns-in_err-parts-clause-whole c = on_err c.from_residual.result _ (λ messages section stands are.
    let k = completes c.law_of_messages.ensures messages section c.args.told.now are c.in-Some.module c.in-Some.ensures in
    (c.in-Some.module, k.bytes, k.made))

pub returns-clause-kept : goal.returns-clause-kept
returns-clause-kept c = on_ok_weaker c.put.result (λ put messages section stands are.
    let k = completes c.law_of_messages.ensures messages section c.args.told.now are c.in-Some.module c.in-Some.ensures in
    stages_put c.args.entities.now c.put.new.self messages section c.in-Some.module (sym (ap (λ o. option_map (λ whole. whole.0) o) k.made)) c.in_ok-parts.parts
    (λ other bytes e. same_parts (made_whole messages section) c.in-Some.module other k.bytes bytes c.in_ok-parts.parts k.made e
    (held_parts c.in-Some-bytes_of.bytes.now k.bytes _ c.in_ok-parts.parts (c.in-Some-bytes_of.ensures _ stands) k.is_held c.in_ok-parts.ensures)) put) c.put.ensures.ok

pub returns-clause-whole : goal.returns-clause-whole
returns-clause-whole c = on_err c.put.result _ (λ messages section stands are.
    let k = completes c.law_of_messages.ensures messages section c.args.told.now are c.in-Some.module c.in-Some.ensures in
    (c.in-Some.module, k.bytes, k.made))

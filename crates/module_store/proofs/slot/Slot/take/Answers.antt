use Rattle.std.proofs.Common.{◌∙◌, [], ◌∷◌, ◌++◌, refl, subst, sym, ap}
use Rattle.carousel_blocks.specs.Message.{messages_of}
use Rattle.module_store.specs.Store.{deliveries_of}
use Rattle.module_store.specs.Noted.{noted, noted_count}
use Rattle.module_store.specs.Entities.{KeepsParts, parts_at, without_reset}
use Rattle.module_store.specs.Standing.{delivery_in}
use Rattle.module_store.proofs.NumberLaws.{noted_alike}
use Rattle.module_store.proofs.SectionLaws.{parts_taken}
use Rattle.module_store.proofs.slot.Slot.take.Goals as goal

pub invariant_of-self-in_err-changes : goal.invariant_of-self-in_err-changes
invariant_of-self-in_err-changes c =
    let was = c.self.invariant in
    record {
      messages = was.messages;
      stands = c.in_err-changes.ensures.before was.messages was.stands;
      parts = subst (λ entities. KeepsParts entities was.messages) (sym c.in_err-changes.ensures.same) was.parts;
    }

pub invariant_of-self-2 : goal.invariant_of-self-2
invariant_of-self-2 c =
    let was = c.self.invariant in
    let found = c.in_ok-changes.changes.items in
    record {
      messages = was.messages ++ messages_of (c.args.section.now ∷ []);
      stands = c.in_ok-changes.ensures.stands was.messages was.stands;
      parts = parts_taken c.law_of_messages.ensures c.self.inside.entities c.take_section.new.entities was.messages c.args.section.now (c.in_ok-changes.ensures.parts was.messages was.stands) c.drop_reset.new.self found
          (λ number. c.drop_reset.ensures number ∙ ap (λ l. without_reset l (parts_at c.take_section.new.entities) number) c.as_slice-2.ensures.value)
          (c.in_ok-changes.ensures.changes was.messages was.stands) was.parts;
    }

pub returns-clause-taken : goal.returns-clause-taken
returns-clause-taken c =
    let found = c.in_ok-changes.changes.items in
    let section = c.args.section.now in
    rw (← c.self.view_is) (record {
      tag = refl;
      pid = refl;
      carousel = λ messages stands. c.in_ok-changes.ensures.stands messages stands;
      changes_are = λ messages stands. c.in_ok-changes.ensures.changes messages stands;
      numbers = λ number. c.note.ensures.numbers number ∙ ap (λ l. noted c.args.count.now (deliveries_of l) (delivery_in c.make_room.new.self) number) c.as_slice.ensures.value
          ∙ noted_alike c.args.count.now (deliveries_of found) (delivery_in c.make_room.new.self) (delivery_in c.self.inside.numbers) c.make_room.ensures.same number;
      count_is = c.note.ensures.count ∙ ap (λ l. noted_count c.args.count.now (deliveries_of l)) c.as_slice.ensures.value;
    })

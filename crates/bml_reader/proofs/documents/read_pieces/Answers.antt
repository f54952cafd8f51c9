use Rattle.std.proofs.Common.{◌≡◌, List, ℕ, Bool, true, false, Some, None, ◌∙◌, sym, ap, subst}
use Rattle.std.specs.Prelude.{option_map}
use Rattle.bml_reader.specs.Markup.{Markup}
use Rattle.bml_reader.specs.devices.Lexing.{Found, found, markup_at}
use Rattle.bml_reader.specs.devices.MarkupViews.{seen_markup, found_markup}
use Rattle.bml_reader.specs.devices.ReaderViews.{Seen, seen_by, seen_step, IsTaken, IsReady}
use Rattle.bml_reader.proofs.SeenLemmas.{ready}
use Rattle.bml_reader.proofs.EndLemmas.{Keeps-start, Keeps-step, Keeps-refused, Keeps-stopped, Keeps-read, different-names, markup-shorter, some-rest, no-rest}
use Rattle.bml_reader.proofs.documents.read_pieces.Goals as goal

pub markup-init : goal.markup-init
markup-init c = Keeps-start c.args.bytes.now (seen_by c.args.reader.now) c.requires

pub returns-in-None : goal.returns-in-None
returns-in-None c =
    let rest : List ℕ = c.markup.rest.now in
    let none : markup_at rest ≡ None = sym c.in_ok-next_markup.ensures ∙ ap (option_map found_markup) c.in-None.is in
    Keeps-stopped c.args.bytes.now (seen_by c.markup.reader) rest c.markup.invariant (some-rest rest (c.markup-test.ensures {u = tt})) none

pub take-requires-clause-ready : goal.take-requires-clause-ready
take-requires-clause-ready c = subst IsReady c.markup.invariant.seen (ready c.markup.invariant.now c.markup.invariant.sound)

pub take-requires-clause-names : goal.take-requires-clause-names
take-requires-clause-names c =
    let rest : List ℕ = c.markup.rest.now in
    let f : Found Markup = found_markup (c.in-Some.markup, c.in-Some.behind) in
    let e : markup_at rest ≡ Some f = sym c.in_ok-next_markup.ensures ∙ ap (option_map found_markup) c.in-Some.is in
    different-names rest f e

pub returns-then-not-branch : goal.returns-then-not-branch
returns-then-not-branch c =
    let rest : List ℕ = c.markup.rest.now in
    let p : Markup = seen_markup c.in-Some.markup in
    let e : markup_at rest ≡ Some (found p c.in-Some.behind.now) = sym c.in_ok-next_markup.ensures ∙ ap (option_map found_markup) c.in-Some.is in
    let old : Seen = seen_by c.markup.reader in
    let new : Seen = seen_by c.take.new.self in
    let taken : IsTaken (seen_step p old) false new = subst (λ (b : Bool). IsTaken (seen_step p old) b new) c.if-not-branch.true c.in_ok-take-in-Some.ensures in
    Keeps-refused c.args.bytes.now old new rest c.in-Some.behind.now p c.markup.invariant e taken

pub markup-smaller : goal.markup-smaller
markup-smaller c =
    let rest : List ℕ = c.markup.rest.now in
    let f : Found Markup = found_markup (c.in-Some.markup, c.in-Some.behind) in
    let e : markup_at rest ≡ Some f = sym c.in_ok-next_markup.ensures ∙ ap (option_map found_markup) c.in-Some.is in
    markup-shorter rest f e

pub markup-preserved : goal.markup-preserved
markup-preserved c =
    let rest : List ℕ = c.markup.rest.now in
    let p : Markup = seen_markup c.in-Some.markup in
    let e : markup_at rest ≡ Some (found p c.in-Some.behind.now) = sym c.in_ok-next_markup.ensures ∙ ap (option_map found_markup) c.in-Some.is in
    let old : Seen = seen_by c.markup.reader in
    let new : Seen = seen_by c.take.new.self in
    let taken : IsTaken (seen_step p old) true new = subst (λ (b : Bool). IsTaken (seen_step p old) b new) c.if-not-branch.false c.in_ok-take-in-Some.ensures in
    Keeps-step c.args.bytes.now old new rest c.in-Some.behind.now p c.markup.invariant e taken

pub returns : goal.returns
returns c =
    let rest : List ℕ = c.markup.rest.now in
    Keeps-read c.args.bytes.now (seen_by c.markup.reader) rest c.is_whole.result c.markup.invariant (no-rest rest (c.markup-test.ensures {u = tt})) c.is_whole.ensures.0 c.is_whole.ensures.1

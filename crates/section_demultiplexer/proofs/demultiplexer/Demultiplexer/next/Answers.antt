use Rattle.std.proofs.Common.{◌≡◌, ℕ, List, refl, sym, ap, subst, ◌∙◌, get_or, set}
use Rattle.std.specs.Prelude.{Option, Some, None, position}
use Rattle.std.specs.Option.{option_copied}
use Rattle.ts_sections.specs.Assembly.{AssemblerState}
use Rattle.section_demultiplexer.specs.declared.demultiplexer.Channel.{Channel}
use Rattle.section_demultiplexer.specs.Channels.{is_on}
use Rattle.section_demultiplexer.specs.Demultiplexing.{DemultiplexerState, NextSection}
use Rattle.section_demultiplexer.proofs.ChannelLaws.{IsWritten, position_none, written}
use Rattle.section_demultiplexer.proofs.StandingLaws.{advances, nothing_next, others_after, state_of}
use Rattle.section_demultiplexer.proofs.demultiplexer.Demultiplexer.next.Goals as goal

found_in : (channels lent : List Channel) (pid : ℕ) (found answer : Option ℕ) → found ≡ position (is_on pid) lent → lent ≡ channels → found ≡ answer → position (is_on pid) channels ≡ answer
found_in channels lent pid found answer is same e = ap (position (is_on pid)) (sym same) ∙ sym is ∙ e

pub returns-in_err-place : goal.returns-in_err-place
returns-in_err-place c =
    let inside = c.self.inside in
    let state = state_of inside.channels.items inside.pid in
    let none = position_none (is_on inside.pid) inside.channels.items
    (found_in inside.channels.items c.deref.result.now inside.pid c.place_of.result None c.place_of.ensures c.deref.ensures.value c.in_err-place.was) in (
      (
        refl,
        (λ _. tt),
        subst (λ (old : DemultiplexerState). NextSection old state (option_copied c.from_residual.result)) c.self.view_is
            (subst (λ (section : Option (List ℕ)). NextSection state state section) (sym (ap option_copied c.from_residual.ensures)) (nothing_next inside.channels.items inside.pid none)),
      ),
      record { after = tt },
    )

wrote : (channels lent : List Channel) (pid place : ℕ) (found : Option ℕ) (channel : Channel) (assembler : AssemblerState) → found ≡ position (is_on pid) lent → lent ≡ channels → found ≡ Some place
    → channel ≡ get_or channels place channel → IsWritten channels (set channels place (record { pid = channel.pid; assembler = assembler })) pid channel assembler
wrote channels lent pid place found channel assembler is same e at_place = written channels pid place channel assembler (found_in channels lent pid found (Some place) is same e) at_place

pub invariant_of-self-2 : goal.invariant_of-self-2
invariant_of-self-2 c =
    let inside = c.self.inside in
    let channel = c.index_mut-channel.result.now in
    let after = c.next.follows.lender-at-none in
    let write = wrote inside.channels.items c.deref.result.now inside.pid c.in_ok-place.place c.place_of.result channel after
    c.place_of.ensures c.deref.ensures.value c.in_ok-place.was c.index_mut-channel.ensures.value in
    record {
      distinct = write.distinct c.self.invariant.distinct;
      room = c.self.invariant.room;
      given = others_after inside.channels.items _ inside.pid channel after write c.self.invariant.given;
    }

pub returns : goal.returns
returns c =
    let inside = c.self.inside in
    let channel = c.index_mut-channel.result.now in
    let after = c.next.follows.lender-at-none in
    let new = set inside.channels.items c.in_ok-place.place (record { pid = channel.pid; assembler = after }) in
    let section = option_copied c.next.result in
    let write = wrote inside.channels.items c.deref.result.now inside.pid c.in_ok-place.place c.place_of.result channel after
    c.place_of.ensures c.deref.ensures.value c.in_ok-place.was c.index_mut-channel.ensures.value in (
      (
        refl,
        (λ _. tt),
        subst (λ (old : DemultiplexerState). NextSection old (state_of new inside.pid) section) c.self.view_is
            (advances inside.channels.items new inside.pid channel after section write c.self.invariant.given c.next.follows.holds-at-none),
      ),
      record { after = tt },
    )

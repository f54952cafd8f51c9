use Rattle.std.proofs.Common.{◌≡◌, ◌∙◌, subst, sym, true}
use Rattle.psi_tables.specs.Service.{wanted_pids, wants}
use Rattle.ts_packets.specs.Packet.{pid_of}
use Rattle.receiver_core.specs.Receiving.{IsIdle, ReceiverState}
use Rattle.receiver_core.proofs.ReceivingLaws.{HasRoomFor, takes_packet, takes_sections}
use Rattle.receiver_core.proofs.receiver.Receiver.wanted_packet.Goals as goal

pub returns-then-not-self-clause-taken : goal.returns-then-not-self-clause-taken
returns-then-not-self-clause-taken c =
    let inside = c.self.inside in
    let packet = c.args.packet.now in
    let services = inside.broadcast.services in
    let idle = subst IsIdle (sym c.self.view_is) c.requires.idle in
    let wanted = subst (λ (r : ReceiverState). wants r.services (pid_of packet) ≡ true) (sym c.self.view_is) c.requires.wanted in
    let room : HasRoomFor inside.demultiplexer inside.broadcast packet = λ now given stands assembled.
    c.law_of_room.ensures inside.demultiplexer now.packets given (wants services) (wanted_pids services) assembled
    (c.law_of_wanted_pids.ensures.always services now.handled stands.services) (λ pid w. sym (c.law_of_wanted_pids.ensures.wanted services pid) ∙ w) c.self.invariant (pid_of packet) wanted in
    rw (← c.self.view_is)
    (takes_packet c.law_of_same_lists.ensures inside.demultiplexer c.push.new.self inside.broadcast inside.spent packet idle wanted room
    (λ has. record { pid = c.push.ensures.pid; stands = c.push.ensures.stands has; completed = c.push.ensures.completed has }))

pub returns-then-not-self-clause-sections : goal.returns-then-not-self-clause-sections
returns-then-not-self-clause-sections c =
    let inside = c.self.inside in
    let packet = c.args.packet.now in
    let services = inside.broadcast.services in
    let wanted = subst (λ (r : ReceiverState). wants r.services (pid_of packet) ≡ true) (sym c.self.view_is) c.requires.wanted in
    let room : HasRoomFor inside.demultiplexer inside.broadcast packet = λ now given stands assembled.
    c.law_of_room.ensures inside.demultiplexer now.packets given (wants services) (wanted_pids services) assembled
    (c.law_of_wanted_pids.ensures.always services now.handled stands.services) (λ pid w. sym (c.law_of_wanted_pids.ensures.wanted services pid) ∙ w) c.self.invariant (pid_of packet) wanted in
    rw (← c.self.view_is)
    (takes_sections inside.demultiplexer c.push.new.self inside.broadcast inside.spent packet wanted room
    (λ has. record { pid = c.push.ensures.pid; stands = c.push.ensures.stands has; completed = c.push.ensures.completed has }))

use Rattle.std.proofs.Common.{◌≡◌, length, min, replicate, arith, rules}
use Rattle.bml_ports.proofs.Filling.{filled-from_front}
use Rattle.bml_ports.proofs.memory_keepers.fill_from.Goals as goal

pub returns : goal.returns
returns c =
    let fitting : c.min-fits.result ≡ min (length c.args.bytes.now) (length c.args.area.now) = omega (arith, c.fill.ensures.len) in
    let clear : c.fill.new.self ≡ replicate (length c.args.area.now) 0 = search rules in
    filled-from_front (length c.args.area.now) c.min-fits.result c.args.bytes.now c.fill.new.self c.copy_from_slice.new.self fitting clear c.copy_from_slice.ensures.after

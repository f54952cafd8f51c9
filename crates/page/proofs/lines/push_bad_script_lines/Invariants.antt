use Rattle.std.proofs.Common.{◌≡◌, ◌++◌, take}
use Rattle.std.specs.List.{flat_map}
use Rattle.page.specs.Lines.{bad_script_line}
use Rattle.page.proofs.lines.push_bad_script_lines.Given as goal

abbrev pub invariant-lines : goal.invariant-lines
invariant-lines l = l.out.items ≡ l.initial.out.items ++ flat_map (bad_script_line l.path) (take l.number-index l.bad)

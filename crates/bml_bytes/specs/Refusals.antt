-- The one value of `NoMemory`. (This project's own.)
use Rattle.bml_bytes.specs.declared.refusals.NoMemory.{NoMemory}

-- want of memory
abbrev pub no_memory : NoMemory
no_memory = record {}

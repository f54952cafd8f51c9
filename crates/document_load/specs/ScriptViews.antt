-- What contracts see of a handler (this project's own).
use Rattle.document_load.specs.Scripts.{HandlerState}
use Rattle.document_load.specs.declared.scripts.Handler.{Handler}

abbrev pub told_handler : Handler → HandlerState
told_handler handler =
    record { node = handler.node.0; kind = handler.kind; program = handler.program }

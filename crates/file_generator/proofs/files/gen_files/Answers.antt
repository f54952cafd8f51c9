use Rattle.std.proofs.Common.{◌++◌, map, refl, ap, ◌∙◌}
use Rattle.carousel_writer.specs.declared.files.Files.{Files}
use Rattle.file_generator.specs.GeneratedFiles.{module_seen, modules_of}
use Rattle.file_generator.proofs.files.gen_files.Goals as goal

pub returns-clause-good : goal.returns-clause-good
returns-clause-good c =
    let files : Files = record { pid = 256; transaction = 1; download = 1; block_size = 4000; rounds = 2; modules = c.push_modules.new.out } in
    c.law_of_generated_files.ensures files c.args.seed c.args.count c.requires.most (record {
      pid = refl;
      transaction = refl;
      download = refl;
      block_size = refl;
      rounds = refl;
      modules = c.in_ok-push_modules.ensures ∙ ap (λ l. map module_seen l ++ modules_of c.args.seed c.args.count) c.new-modules.ensures.items;
    })

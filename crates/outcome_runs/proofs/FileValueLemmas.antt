-- Whatever is done to files, each word of their lines keeps a value.
use Rattle.std.proofs.Common.{List}
use Rattle.nvm_model.specs.Storage.{File, Mapping}
use Rattle.script_text.specs.Action.{Action}
use Rattle.machine_model.specs.Commands.{meaning}
use Rattle.outcomes.specs.Outcome.{AllHaveValues}
use Rattle.durable.proofs.StepKinds.{files_made}
use Rattle.outcomes.proofs.FileHistoryLemmas.{files_after_hold, files_made_hold}
use Rattle.outcomes.proofs.ValueLemmas.{AnyBytes, HasValue, any_brought, values_kept}

pub files_made_have : (action : Action) (mappings : List Mapping) (files : List File) → AllHaveValues files → AllHaveValues ((meaning action).files mappings files)
files_made_have action mappings files all = files_made_hold HasValue AnyBytes values_kept action mappings files (any_brought action) all

pub files_after_have : (action : Action) (mappings : List Mapping) (files : List File) → AllHaveValues files → AllHaveValues (files_made mappings action files)
files_after_have action mappings files all = files_after_hold HasValue AnyBytes values_kept action mappings files (any_brought action) all

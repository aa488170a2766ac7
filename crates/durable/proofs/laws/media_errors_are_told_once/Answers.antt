use Rattle.durable.proofs.FoundLemmas.{found_anew}
use Rattle.durable.proofs.OrderLemmas.{told_in_order}
use Rattle.durable.proofs.ToldLemmas.{noted, oldest, renamed, untold}
use Rattle.durable.proofs.laws.media_errors_are_told_once.Goals as goal

pub returns-clause-told : goal.returns-clause-told
returns-clause-told c = told_in_order

pub returns-clause-oldest : goal.returns-clause-oldest
returns-clause-oldest c = oldest

pub returns-clause-waits : goal.returns-clause-waits
returns-clause-waits c = untold

pub returns-clause-noted : goal.returns-clause-noted
returns-clause-noted c = noted

pub returns-clause-renamed : goal.returns-clause-renamed
returns-clause-renamed c = renamed

pub returns-clause-found : goal.returns-clause-found
returns-clause-found c = found_anew

-- Each read is asked.
use Rattle.std.proofs.Common.{◌||◌, not, sym, ◌∙◌, rules, tests}
use Rattle.std.proofs.lemmas.Iterator.{YieldsList-from_slice}
use Rattle.std.proofs.lemmas.Iterator.Search.{all_from_yields_List}
use Rattle.std.proofs.lemmas.List.Folds.{list_all-map}
use Rattle.nvm_model.specs.Numbered.{is_among}
use Rattle.asked_reads.specs.Fitting.{sight_allows}
use Rattle.asked_reads.specs.Reads.{block_read, block_reply}
use Rattle.asked_reads.specs.declared.reads.BlockRead.{BlockRead as Asked}
use Rattle.asked_reads.specs.Outcomes.Blocks.{BlockRead}
use Rattle.sights.proofs.blocks_fit.block_fits.Goals as goal

pub returns : goal.returns
returns c =
    let b = c.args.b in
    let block = c.args.block.now in
    all_from_yields_List (λ (r : Asked). not (is_among r.first r.count b) || sight_allows b block r.first (block_reply r.reply)) _ _ _ c.all.ensures.ran
    (YieldsList-from_slice c.args.reads.now cc) (λ x b q k. search (rules, tests))
    ∙ sym (list_all-map (λ (r : BlockRead). not (is_among r.first r.count b) || sight_allows b block r.first r.reply) block_read c.args.reads.now)

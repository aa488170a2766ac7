use Rattle.std.proofs.Common.{ap, refl, option_map}
use Rattle.word_tables.specs.Layout.{first_line, size, total_lines}
use Rattle.word_tables.specs.Superblock.{first_wrong_word, superblock_word}
use Rattle.word_log.specs.Replay as log
use Rattle.block_device.specs.Reading.{states_read}
use Rattle.pm_volume.specs.Presence.{words_read}
use Rattle.word_log.specs.Mount.Finding.{wrong_word}
use Rattle.recovery.specs.Examples.{smallest, superblock_but}
use Rattle.recovery.specs.Findings.{early_finding, inspection_finding, first_finding}
use Rattle.recovery.proofs.SmallFileLemmas.{behind_superblock, beside_word, inode_wrong, nothing_wrong, page_wrong}
use Rattle.recovery.proofs.laws.findings_of_small_devices.Goals as goal

pub returns-clause-fresh : goal.returns-clause-fresh
unfolding first_line size total_lines first_wrong_word log.listed log.first_wrong states_read words_read early_finding inspection_finding first_finding
returns-clause-fresh c = ap (option_map wrong_word) (nothing_wrong (superblock_word smallest) refl behind_superblock)

pub returns-clause-word : goal.returns-clause-word
unfolding first_line size total_lines first_wrong_word early_finding inspection_finding first_finding
returns-clause-word c = refl

pub returns-clause-first : goal.returns-clause-first
unfolding first_line size total_lines first_wrong_word early_finding inspection_finding first_finding
returns-clause-first c = refl

pub returns-clause-bad : goal.returns-clause-bad
unfolding first_line size total_lines first_wrong_word early_finding inspection_finding first_finding
returns-clause-bad c = refl

pub returns-clause-weak : goal.returns-clause-weak
unfolding first_line size total_lines first_wrong_word early_finding inspection_finding first_finding
returns-clause-weak c = refl

pub returns-clause-log : goal.returns-clause-log
unfolding first_line size total_lines first_wrong_word log.listed log.first_wrong states_read words_read early_finding inspection_finding first_finding
returns-clause-log c = refl

pub returns-clause-map : goal.returns-clause-map
unfolding first_line size total_lines first_wrong_word log.listed log.first_wrong states_read words_read early_finding inspection_finding first_finding
returns-clause-map c = refl

pub returns-clause-volume_log : goal.returns-clause-volume_log
unfolding first_line size total_lines first_wrong_word log.listed log.first_wrong states_read words_read early_finding inspection_finding first_finding
returns-clause-volume_log c = refl

pub returns-clause-presence : goal.returns-clause-presence
unfolding first_line size total_lines first_wrong_word log.listed log.first_wrong states_read words_read early_finding inspection_finding first_finding
returns-clause-presence c = refl

pub returns-clause-both : goal.returns-clause-both
unfolding first_line size total_lines first_wrong_word log.listed log.first_wrong states_read words_read early_finding inspection_finding first_finding
returns-clause-both c = refl

pub returns-clause-file_log : goal.returns-clause-file_log
unfolding first_line size total_lines first_wrong_word log.listed log.first_wrong states_read words_read early_finding inspection_finding first_finding
returns-clause-file_log c = refl

pub returns-clause-inode : goal.returns-clause-inode
unfolding first_line size total_lines first_wrong_word log.listed log.first_wrong states_read words_read early_finding inspection_finding first_finding
returns-clause-inode c = ap (option_map wrong_word) (inode_wrong (superblock_but 1232 1) refl refl (beside_word 1232 1))

pub returns-clause-page : goal.returns-clause-page
unfolding first_line size total_lines first_wrong_word log.listed log.first_wrong states_read words_read early_finding inspection_finding first_finding
returns-clause-page c = ap (option_map wrong_word) (page_wrong (superblock_but 1744 1) refl refl (beside_word 1744 1))

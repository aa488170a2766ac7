use Rattle.std.proofs.Common.{◌≡◌, ◌-◌, ◌≤◌, ◌<◌, ◌^◌, ℕ, true}
use Rattle.std.specs.List.{range_with_len}
use Rattle.cut_places.specs.Outcomes.Pages.{lines_read}
use Rattle.cut_places.specs.AskedReads.Reads.{page_reply}
use Rattle.cut_places.specs.SeesFiles.{is_held}
use Rattle.explorer.proofs.file_numbers.add_lines.Given as goal

abbrev pub invariant-loop-n : goal.invariant-loop-n
invariant-loop-n l = record {
  ordered : l.initial.n ≤ l.n-end;
  small : l.n-end ≤ 2 ^ 32;
  reads : range_with_len l.initial.n (l.n-end - l.initial.n) ≡ lines_read l.read.pages.start l.read.pages.len (page_reply l.read.pages.reply);
  here : (n : ℕ) → l.initial.n ≤ n → n < l.n → is_held l.held.keys n ≡ true;
  others : (n : ℕ) → is_held l.fn.held.keys n ≡ true → is_held l.held.keys n ≡ true;
}

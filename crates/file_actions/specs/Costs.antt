-- What calls may spend of a device's calls.
use Rattle.std.specs.Prelude.{◌+◌, ◌*◌, ℕ}
use Rattle.word_log.specs.Changes.{commit_calls, commit_persists}

-- an atomic write of so many pages: each line is read, and given to a fresh unit durably; then comes one commit
abbrev pub write_calls : ℕ → ℕ
write_calls pages = 256 * pages + commit_calls (5 + pages)

abbrev pub write_persists : ℕ → ℕ
write_persists pages = 64 * pages + commit_persists (5 + pages)

-- Cuts, failures, write-backs, restarts and recoveries. What a restart or a recovery leaves, the medium decides.
use Rattle.std.specs.Prelude.{◌==◌, ℕ, true, false, Some, None, Option, if◌then◌else◌}
use Rattle.line_device.specs.declared.line.Choice.{Choice}
use Rattle.line_device.specs.declared.order.Order.TheVariants.{Cut as ForCut, Evict as ForWriteBack, Fail as ForFailure}
use Rattle.word_tables.specs.declared.geometry.Geometry.{Geometry}
use Rattle.reply_text.specs.declared.reply.Why.{Why}
use Rattle.reply_text.specs.declared.reply.Why.TheVariants as because
use Rattle.machine_model.specs.declared.mode.Mode.TheVariants as modes
use Rattle.machine_model.specs.declared.needs.Needs.TheVariants.{Usable, Anytime, Powered, Unpowered, Failed}
use Rattle.machine_model.specs.Costs.{mount_calls, mount_persists}
use Rattle.machine_model.specs.Machine.Fate.{Orders, Cuts, Restarts, Recovers}
use Rattle.machine_model.specs.Meaning.{Meaning, anywhere, quiet}
use Rattle.machine_model.specs.Meaning.Starved.{Unmounted, Unrecovered}

abbrev pub cut : Meaning
cut = quiet Powered anywhere (λ h. Cuts (record h { mode = modes.Off; cut_armed = false; fail_armed = false }))

-- none may be armed in no calls
abbrev pub in_calls : ℕ → Geometry → Option Why
in_calls calls geo = if calls == 0 then Some because.Range else None

abbrev pub cut_in : ℕ → Meaning
cut_in calls = quiet Anytime (in_calls calls) (λ h. Orders (ForCut calls) (record h { cut_armed = true }))

abbrev pub fail_in : ℕ → Meaning
fail_in calls = quiet Anytime (in_calls calls) (λ h. Orders (ForFailure calls) (record h { fail_armed = true }))

-- the device may write back, which changes nothing that is read; any number of lines is asked for
abbrev pub evict : ℕ → Meaning
evict lines = quiet Usable anywhere (λ h. Orders (ForWriteBack lines) h)

abbrev pub restart : Choice → Meaning
restart choice = record (quiet Unpowered anywhere (λ h. Restarts choice)) {
  starved = Unmounted choice;
  wants_memory = true;
  spends = λ h. record { calls = mount_calls; persists = mount_persists };
}

abbrev pub recover : Meaning
recover = record (quiet Failed anywhere (λ h. Recovers)) {
  starved = Unrecovered;
  wants_memory = true;
  spends = λ h. record { calls = mount_calls; persists = mount_persists };
}

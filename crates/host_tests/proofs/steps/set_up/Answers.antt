use Rattle.std.proofs.Common.{◌≡◌, [], ◌∷◌, refl, sym, ap, ◌∙◌, lit≤, arith}
use Rattle.line_device.specs.History.{newest}
use Rattle.line_device.specs.Medium.{Medium, last_image}
use Rattle.line_device.specs.Panel.{Image}
use Rattle.line_device.specs.Device.{Depicts}
use Rattle.recovery.specs.Fresh.{IsFresh}
use Rattle.word_tables.specs.declared.geometry.Geometry.{Geometry}
use Rattle.word_tables.specs.Bounds.{IsValid}
use Rattle.recovery.proofs.SuperblockLemmas.{some_lines}
use Rattle.machine_host.proofs.MountLemmas.{fresh_flushed}
use Rattle.host_tests.proofs.steps.set_up.Goals as goal

abbrev sizes : Geometry
sizes = record { blocks = 8; vpages = 2; fpages = 32 }

sizes_are_valid : IsValid sizes
sizes_are_valid = record {
  least_blocks = lit≤ tt;
  most_blocks = lit≤ tt;
  whole_lines = refl;
  least_vpages = lit≤ tt;
  most_vpages = lit≤ tt;
  least_fpages = lit≤ tt;
  most_fpages = lit≤ tt;
}

pub mount-requires-clause-some : goal.mount-requires-clause-some
mount-requires-clause-some c = omega (arith, c.in_ok-format.ensures.ok.count, some_lines sizes)

pub mount-requires-clause-flushed : goal.mount-requires-clause-flushed
mount-requires-clause-flushed c p there = fresh_flushed sizes _ c.in_ok-format.ensures.ok p there

-- its one image
now : Medium → Image
now m = record { count = m.count; is_bad = m.is_bad; is_weak = m.is_weak; unit = 8; word = last_image m }

depicted : (m : Medium) → IsFresh sizes m → Depicts m (now m)
unfolding now
depicted m fresh = record {
  count = refl;
  bad = λ n on. refl;
  weak = λ n on. refl;
  words = λ p healthy. let one = fresh.words p healthy.0 in one ∙ ap (λ v. v ∷ []) (sym (ap newest one));
}

of_words : (m : Medium) → (now m).unit ≡ 8
unfolding now
of_words m = refl

pub returns : goal.returns
returns c =
    let fresh = c.in_ok-format.ensures.ok in
    record {
      serves = c.in_ok-host.ensures.serves;
      state = _;
      stands = c.in_ok-host.ensures.stands (now _) (depicted _ fresh) (of_words _);
    }

-- Ways, parts and outcomes as they are held.
use Rattle.std.specs.Prelude.{List, [], ◌∷◌, map, Option, Some, None}
use Rattle.outcome_walk.specs.declared.found.Found.{Found}
use Rattle.outcome_walk.specs.declared.level.Choice.{Choice}
use Rattle.outcome_walk.specs.declared.level.Level.{Level}
use Rattle.outcome_walk.specs.Walking.{Part, Trail, Way}

abbrev pub way_held : Choice → Way
way_held c = record { text = c.text.items; fits = c.fits.items }

abbrev pub ways_held : List Choice → List Way
ways_held cs = map way_held cs

abbrev pub part_held : Level → Part
part_held p = record { links = p.links.items; ways = ways_held p.choices.items }

abbrev pub parts_held : List Level → List Part
parts_held ps = map part_held ps

abbrev pub trail_held : Found → Trail
trail_held f = record { text = f.text.items; sides = f.sides.items }

abbrev pub trails_held : List Found → List Trail
trails_held fs = map trail_held fs

-- if there is one
abbrev pub some_held : Option Found → List Trail
some_held None = []
some_held (Some f) = trail_held f ∷ []

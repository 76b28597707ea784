-- Records put after those in use of a strip.
use Rattle.std.specs.Prelude.{◌≤◌, Bool, cond, List, length, Some, None}
use Rattle.strips.specs.declared.Strip.{Strip}
use Rattle.strips.specs.Strips.{Added}

-- the records es were put after those in use of a strip, where so is true; where it is false they do not fit
abbrev pub Put : {X : Type 0} → Strip X → List X → Bool → Strip X → Type 0
Put before es so after = before.count ≤ length before.cells.now → Added before.cells.now before.count es (cond so (Some after.count) None) after.cells.now

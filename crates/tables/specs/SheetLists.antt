-- The list of a sheet: its entries that lead out to sheets senior to it, or those that lead in from there. Their keys fill one part of a table.
use Rattle.std.specs.Prelude.{ℕ, ◌+◌, ◌*◌}
use Rattle.theory.specs.declared.Way.{Way}
use Rattle.theory.specs.declared.Way.TheVariants.{Out, In}

-- where the keys of the out entries and of the in entries of a sheet begin and end
abbrev pub list_begin : Way → ℕ → ℕ
list_begin Out w = w * 131072
list_begin In w = w * 131072 + 65536

abbrev pub list_end : Way → ℕ → ℕ
list_end Out w = w * 131072 + 65536
list_end In w = w * 131072 + 131072

-- two things as they stand along the redraws: the near one in front on the way out, the far one on the way in
abbrev pub ordered : {X : Type 0} → Way → X → X → X × X
ordered Out near far = (near, far)
ordered In near far = (far, near)

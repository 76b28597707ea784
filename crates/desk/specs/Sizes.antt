-- The program's memory: places for 512 redraws and 1,024 entries, and for as many sheets as are asked for, 64 at most.
use Rattle.std.specs.Prelude.{◌≡◌, ℕ, min}

-- the memory has these places for so many sheets
pub record HasPlaces (register table spare work marks sheets : ℕ) : Type 0 where
  pub register_is : register ≡ 512
  pub table_is : table ≡ 1024
  pub spare_is : spare ≡ 1024
  pub work_is : work ≡ min sheets 64
  pub marks_are : marks ≡ min sheets 64

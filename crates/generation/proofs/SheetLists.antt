-- The list of a sheet: the entries of a table whose keys lie between two bounds, and which entries those are.
use Rattle.std.proofs.Common.{◌≡◌, ℕ, ◌+◌, ◌-◌, ◌<◌, ◌≤◌, List, length, get_or, sym, ap, ◌∙◌, subst, ⊎_elim, arith}
use Rattle.std.proofs.lemmas.List.Edits.{length-between, get_or-between}
use Rattle.std.proofs.lemmas.Bool.{cases_lt}
use Rattle.theory.specs.declared.Entry.{Entry}
use Rattle.theory.specs.declared.Way.{Way}
use Rattle.theory.specs.declared.Way.TheVariants.{Out, In}
use Rattle.theory.specs.Measures.{Meaning}
use Rattle.theory.specs.Chains.{Among}
use Rattle.theory.specs.Order.{key_of, LawfulEntry}
use Rattle.theory.proofs.Members.{among_get_or, among_place}
use Rattle.theory.proofs.SortedTables.{key_out, key_in}
use Rattle.tables.specs.Places.{Part}
use Rattle.tables.specs.SheetLists.{list_begin, list_end}
use Rattle.generation.specs.Offers.{near_end, far_end}

module _ {V : Type 0} (es : List (Entry V)) (low high : ℕ) (part : List (Entry V)) (at : Part es low high part) where
  part_length : length part ≡ at.last - at.first
  part_length = ap length at.is ∙ length-between es at.first at.last at.within

  part_place : (p : ℕ) (d : Entry V) → p < length part → get_or part p d ≡ get_or es (at.first + p) d
  part_place p d h = let len = part_length in ap (λ (x : List (Entry V)). get_or x p d) at.is ∙ get_or-between es at.first at.last p d (omega arith)

  -- a member of the part is an entry with such a key
  pub part_from : (x : Entry V) → Among x part → Among x es × (low ≤ key_of x) × (key_of x < high)
  part_from x a =
      let (p, l, is) = among_place x part a in
      let len = part_length in
      let w = at.within in
      let inside : at.first + p < length es = omega arith in
      let same : get_or es (at.first + p) x ≡ x = sym (part_place p x l) ∙ is x in (
        subst (λ y. Among y es) same (among_get_or es (at.first + p) x inside),
        subst (λ y. low ≤ key_of y) same (at.begins.after (at.first + p) x (omega arith) inside),
        subst (λ y. key_of y < high) same (at.ends.before (at.first + p) x (omega arith)),
      )

  -- and every such entry is a member
  pub part_to : (x : Entry V) → Among x es → low ≤ key_of x → key_of x < high → Among x part
  part_to x a b c =
      let (i, l, is) = among_place x es a in
      let k : key_of (get_or es i x) ≡ key_of x = ap key_of (is x) in
      ⊎_elim
      (λ (h : i < at.first). absurd (omega (arith, at.begins.before i x h)))
      (λ (h : at.first ≤ i). ⊎_elim
      (λ (g : i < at.last).
      let len = part_length in
      let inside : i - at.first < length part = omega arith in
      let back : at.first + (i - at.first) ≡ i = omega arith in
      subst (λ y. Among y part) (part_place (i - at.first) x inside ∙ ap (λ n. get_or es n x) back ∙ is x) (among_get_or part (i - at.first) x inside))
      (λ (g : at.last ≤ i). absurd (omega (arith, at.ends.after i x g l)))
      (cases_lt i at.last))
      (cases_lt i at.first)

module _ {V : Type 0} (m : Meaning V) (n : ℕ) (small : n ≤ 65536) (x : Entry V) (may : LawfulEntry m n x) (w : ℕ) where
  -- an entry with a key of the list leads from the sheet that way to a sheet senior to it
  pub list_ends : (way : Way) → list_begin way w ≤ key_of x → key_of x < list_end way w → (near_end way x ≡ w) × (far_end way x < w)
  list_ends Out low high =
      let a = may.from_below in
      let b = may.to_below in
      ⊎_elim
      (λ (l : x.to < x.from). let k = key_out x.from x.to l in (omega arith, omega arith))
      (λ (l : x.from ≤ x.to). let k = key_in x.from x.to l in absurd (omega arith))
      (cases_lt x.to x.from)
  list_ends In low high =
      let a = may.from_below in
      let b = may.to_below in
      let d = may.differ in
      ⊎_elim
      (λ (l : x.to < x.from). let k = key_out x.from x.to l in absurd (omega arith))
      (λ (l : x.from ≤ x.to). let k = key_in x.from x.to l in (omega arith, omega arith))
      (cases_lt x.to x.from)

  -- and such an entry has a key of the list
  pub ends_list : (way : Way) → near_end way x ≡ w → far_end way x < w → (list_begin way w ≤ key_of x) × (key_of x < list_end way w)
  ends_list Out e l =
      let a = may.from_below in
      let b = may.to_below in
      let k = key_out x.from x.to (omega arith) in
      (omega arith, omega arith)
  ends_list In e l =
      let a = may.from_below in
      let b = may.to_below in
      let k = key_in x.from x.to (omega arith) in
      (omega arith, omega arith)

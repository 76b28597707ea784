-- The promise over all runs: what holds at every point of a run, by induction on the run, and the promise from it.
use Rattle.std.proofs.Common.{◌≡◌, ℕ, suc, ◌<◌, ◌≤◌, Bool, true, false, not, ◌&&◌, ltb, leb, [], ◌∷◌, ◌++◌, Some, None, Option, sym, refl, ap, ◌∙◌, subst, ap₂, append-nil, arith}
use Rattle.std.proofs.lemmas.Bool.{true≢false, not-false, and_parts, leb-true, ltb-false}
use Rattle.theory.specs.declared.Phase as phases
use Rattle.theory.specs.declared.Phase.{Phase}
use Rattle.theory.specs.declared.Refusal.{Refusal}
use Rattle.theory.specs.declared.Refusal.TheVariants.{SheetCount, RegisterPlaces, TablePlaces, WantOfPlaces}
use Rattle.theory.specs.Measures.{Meaning, Lawful}
use Rattle.theory.specs.Chains.{Register, best}
use Rattle.theory.specs.Books.{View, Call, Answer, enter, clear, round, root, look, list, refused, redraw, new_book, making_refusal, Sound, Stands, Stepped, refusal, unless, taken_view, taken_answer, round_refusal, root_refusal, round_ends, root_ends, rounds_done, roots_done, phase_after}
use Rattle.theory.proofs.Best as bests
use Rattle.theory.proofs.Guarantees.{guarantee}
use Rattle.runs.specs.Runs.{History, Run, no_call, then_call, was_taken, accepted, roots_since, rounds_since, LedTo, HonestAndRight, FinishedBook, Promise}
use Rattle.runs.specs.Turns.{FewRounds}
use Rattle.runs.proofs.Opening.{passed}
use Rattle.runs.proofs.Rooting as rooting
use Rattle.runs.proofs.Keeping.{stepped_sound}

-- where a book stands says how many roots and rounds were counted
abbrev Counted : ℕ → ℕ → Phase → Type 0
Counted roots rounds phases.TheVariants.Open = (roots ≡ 0) × (rounds ≡ 0)
Counted roots rounds (phases.TheVariants.Rounds k) = (roots ≡ 0) × (rounds ≡ k)
Counted roots rounds (phases.TheVariants.Roots r) = (roots ≡ r) × (rounds ≡ 0)
Counted roots rounds phases.TheVariants.Finished = Unit {0}

module _ {V : Type 0} (m : Meaning V) (L : Lawful m) where
  -- what holds at every point of a run
  record Standing (n : ℕ) (h : History V) (v : View V) : Type 0 where
    pub sheets_are : v.sheets ≡ n
    pub redraws_are : v.redraws ≡ accepted h
    pub sound : Sound m v
    pub few_rounds : FewRounds v.sheets v.phase
    pub counted : Counted (roots_since h) (rounds_since h) v.phase

  -- a call that is taken is no refusal
  takes : (v : View V) (c : Call) → was_taken (taken_answer m v c) ≡ true
  takes v (enter from to minutes grade) = refl
  takes v clear = refl
  takes v round = refl
  takes v root = refl
  takes v (look s t) = refl
  takes v list = refl

  -- the refusal that an answer gives is the one that the rules set
  pub refused_set : (v w : View V) (c : Call) (e : Refusal) → Stepped m v c (refused e) w → (refusal m v c ≡ Some e) × (w ≡ v)
  refused_set v w c e T = by (refusal m v c) T.answers T.leaves
    where
      by : (o : Option Refusal) → ◌≡◌ {A = Answer V} (refused e) (unless o refused (taken_answer m v c)) → w ≡ unless o (λ _. v) (taken_view m v c) → (o ≡ Some e) × (w ≡ v)
      by (Some f) a l = (cc, l)
      by None a l = absurd (true≢false (sym (takes v c) ∙ sym (ap was_taken a)))

  -- a round that is not refused counts on from the rounds before it
  round_counts : (w : View V) (roots rounds : ℕ) (p : Phase) → round_refusal m w p ≡ None → Counted roots rounds p → (d : Bool) → Counted roots (suc rounds) (phase_after d (phases.TheVariants.Rounds (suc (rounds_done p))))
  round_counts w roots rounds p h c true = tt
  round_counts w roots rounds phases.TheVariants.Open h c false = (c.0, ap suc c.1)
  round_counts w roots rounds (phases.TheVariants.Rounds k) h c false = (c.0, ap suc c.1)
  round_counts w roots rounds (phases.TheVariants.Roots r) h c false = let z : ◌≡◌ {A = ℕ} 0 1 = cc in absurd (omega arith)
  round_counts w roots rounds phases.TheVariants.Finished h c false = let z : ◌≡◌ {A = ℕ} 0 1 = cc in absurd (omega arith)

  -- and so does a root
  root_counts : (w : View V) (roots rounds : ℕ) (p : Phase) → root_refusal m w p ≡ None → Counted roots rounds p → (d : Bool) → Counted (suc roots) rounds (phase_after d (phases.TheVariants.Roots (suc (roots_done p))))
  root_counts w roots rounds p h c true = tt
  root_counts w roots rounds phases.TheVariants.Open h c false = (ap suc c.0, c.1)
  root_counts w roots rounds (phases.TheVariants.Rounds k) h c false = let z : ◌≡◌ {A = ℕ} 0 1 = cc in absurd (omega arith)
  root_counts w roots rounds (phases.TheVariants.Roots r) h c false = (ap suc c.0, c.1)
  root_counts w roots rounds phases.TheVariants.Finished h c false = let z : ◌≡◌ {A = ℕ} 0 1 = cc in absurd (omega arith)

  module _ (n : ℕ) (h : History V) (w : View V) (I : Standing n h w) where
    nothing_given : w.redraws ≡ accepted h ++ []
    nothing_given = I.redraws_are ∙ sym (append-nil (accepted h))

    -- one call more
    moves : (c : Call) → (o : Option Refusal) → refusal m w c ≡ o → (let x : View V = unless o (λ _. w) (taken_view m w c) in Sound m x × FewRounds x.sheets x.phase) → Standing n ((c, unless o refused (taken_answer m w c)) ∷ h) (unless o (λ _. w) (taken_view m w c))
    moves c (Some e) f S = record { sheets_are = I.sheets_are; redraws_are = nothing_given; sound = S.0; few_rounds = S.1; counted = I.counted }
    moves (enter from to minutes grade) None f S = record { sheets_are = I.sheets_are; redraws_are = ap (λ rs. rs ++ redraw from to minutes grade ∷ []) I.redraws_are; sound = S.0; few_rounds = S.1; counted = (refl, refl) }
    moves clear None f S = record { sheets_are = I.sheets_are; redraws_are = nothing_given; sound = S.0; few_rounds = S.1; counted = (refl, refl) }
    moves round None f S = record { sheets_are = I.sheets_are; redraws_are = nothing_given; sound = S.0; few_rounds = S.1; counted = round_counts w (roots_since h) (rounds_since h) w.phase f I.counted (round_ends m w) }
    moves root None f S = record { sheets_are = I.sheets_are; redraws_are = nothing_given; sound = S.0; few_rounds = S.1; counted = root_counts w (roots_since h) (rounds_since h) w.phase f I.counted (root_ends w) }
    moves (look s t) None f S = record { sheets_are = I.sheets_are; redraws_are = nothing_given; sound = S.0; few_rounds = S.1; counted = I.counted }
    moves list None f S = record { sheets_are = I.sheets_are; redraws_are = nothing_given; sound = S.0; few_rounds = S.1; counted = I.counted }

    stands_on : (x : View V) (c : Call) (a : Answer V) → Stepped m w c a x → Standing n ((c, a) ∷ h) x
    stands_on x c a T =
        subst (λ b. Standing n ((c, b) ∷ h) x) (sym T.answers)
        (subst (Standing n ((c, unless (refusal m w c) refused (taken_answer m w c)) ∷ h)) (sym T.leaves)
        (moves c (refusal m w c) refl (subst (λ y. Sound m y × FewRounds y.sheets y.phase) T.leaves (stepped_sound m L w x c a I.sound I.few_rounds T))))

  -- a made book
  made_sound : (n register table : ℕ) → making_refusal n register table table n n ≡ None → Sound m (new_book n register table)
  made_sound n register table h =
      let a = passed (not (leb 1 n && leb n 1024)) SheetCount _ h in
      let b = passed (ltb 16384 register) RegisterPlaces _ a.1 in
      let c = passed (ltb 65536 table) TablePlaces _ b.1 in
      let s = and_parts (leb 1 n) (leb n 1024) (not-false (leb 1 n && leb n 1024) a.0) in
      record {
        some_sheets = leb-true 1 n s.0;
        sheets_bound = leb-true n 1024 s.1;
        register_bound = ltb-false 16384 register b.0;
        table_bound = ltb-false 65536 table c.0;
        redraws_within = omega arith;
        entries_within = omega arith;
        redraws_fit = tt;
        stands = refl;
      }

  run_stands : (n : ℕ) (b : View V) (h : History V) (v : View V) → Standing n [] b → Run m b h v → Standing n h v
  run_stands n b h v B (no_call x) = B
  run_stands n b h v B (then_call x w y g c a R T) = stands_on n g w (run_stands n x g w B R) y c a T

  led_stands : (n : ℕ) (h : History V) (v : View V) → LedTo m n h v → Standing n h v
  led_stands n h v led = run_stands n (new_book n led.register_places led.table_places) h v
      (record { sheets_are = refl; redraws_are = refl; sound = made_sound n led.register_places led.table_places led.makeable; few_rounds = tt; counted = (refl, refl) }) led.by_calls

  -- what a finished book guarantees, by its own redraws
  finished_book : (v : View V) → Sound m v → v.phase ≡ phases.TheVariants.Finished → FinishedBook m v.sheets v.redraws v
  finished_book v S done =
      let G = guarantee m L v S done in
      record {
        holds_finished_table = G.is_finished_table;
        answers_rightly = G.answers_best;
        held_by_every_right_table = λ es h. (G.held_by_all es (record { in_order = h.in_order; honest = h.honest; right = h.right })).0;
        equal_exactly = λ h w led ends.
            let W = led_stands v.sheets h w led in
            let both = G.same_exactly w W.sound ends W.sheets_are in
            let best_is : (s t : ℕ) → best m w.sheets w.redraws s t ≡ best m v.sheets (accepted h) s t = λ s t. ap₂ (λ n rs. best m n rs s t) W.sheets_are W.redraws_are in (
              (λ e s t ls lt. both.0 e s t ls lt ∙ best_is s t),
              (λ agree. both.1 (λ s t ls lt. agree s t ls lt ∙ sym (best_is s t))),
            );
      }

  all_roots : (n : ℕ) (v : View V) (roots rounds : ℕ) → Sound m v → v.sheets ≡ n → (p : Phase) → v.phase ≡ p → Counted roots rounds p → n ≤ roots → p ≡ phases.TheVariants.Finished
  all_roots n v roots rounds S e phases.TheVariants.Open at c l = let s : 1 ≤ v.sheets = S.some_sheets in absurd (omega (arith, c.0))
  all_roots n v roots rounds S e (phases.TheVariants.Rounds k) at c l = let s : 1 ≤ v.sheets = S.some_sheets in absurd (omega (arith, c.0))
  all_roots n v roots rounds S e (phases.TheVariants.Roots r) at c l =
      let h = subst (Stands m v.sheets v.redraws v.entries) at S.stands in
      let below : r < v.sheets = h.1 in
      absurd (omega (arith, c.0))
  all_roots n v roots rounds S e phases.TheVariants.Finished at c l = refl

  all_rounds : (n : ℕ) (v : View V) (roots rounds : ℕ) → Sound m v → FewRounds v.sheets v.phase → v.sheets ≡ n → (p : Phase) → v.phase ≡ p → Counted roots rounds p → n ≤ rounds → p ≡ phases.TheVariants.Finished
  all_rounds n v roots rounds S few e phases.TheVariants.Open at c l = let s : 1 ≤ v.sheets = S.some_sheets in absurd (omega (arith, c.1))
  all_rounds n v roots rounds S few e (phases.TheVariants.Rounds k) at c l =
      let below : k < v.sheets = subst (FewRounds v.sheets) at few in
      absurd (omega (arith, c.1))
  all_rounds n v roots rounds S few e (phases.TheVariants.Roots r) at c l = let s : 1 ≤ v.sheets = S.some_sheets in absurd (omega (arith, c.1))
  all_rounds n v roots rounds S few e phases.TheVariants.Finished at c l = refl

  -- the promise over all runs
  pub promise : Promise m
  promise n h v led =
      let I = led_stands n h v led in
      let reg : Register n (accepted h) = subst (Register n) I.redraws_are (subst (λ x. Register x v.redraws) I.sheets_are I.sound.redraws_fit) in
      record {
        sheets_are = I.sheets_are;
        redraws_are = I.redraws_are;
        best_is_best = λ s t. bests.best_over m L n (accepted h) reg s t;
        when_finished = λ done. subst (λ rs. FinishedBook m n rs v) I.redraws_are (subst (λ x. FinishedBook m x v.redraws v) I.sheets_are (finished_book v I.sound done));
        refusal_changes_nothing = λ c e w T. (refused_set v w c e T).1;
        root_refused_rightly = λ w T es H.
            let own : HonestAndRight m v.sheets v.redraws es = subst (λ rs. HonestAndRight m v.sheets rs es) (sym I.redraws_are) (subst (λ x. HonestAndRight m x (accepted h) es) (sym I.sheets_are) H) in
            rooting.wanting m L v I.sound v.phase (refused_set v w root WantOfPlaces T).0 es (record { in_order = own.in_order; honest = own.honest; right = own.right });
        roots_finish = λ l. all_roots n v (roots_since h) (rounds_since h) I.sound I.sheets_are v.phase refl I.counted l;
        rounds_finish = λ _ l. all_rounds n v (roots_since h) (rounds_since h) I.sound I.few_rounds I.sheets_are v.phase refl I.counted l;
      }

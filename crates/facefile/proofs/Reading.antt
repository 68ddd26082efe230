-- What the reader answers of a whole file is what the definition says: laws for the header, for the entries and for the end.
-- The entries give a cursor that stands for the state of the definition, and the end looks at what this counts.
use mathlib.Core.Path.{◌≡◌, refl, sym, ap, subst, ◌∙◌}
use mathlib.Core.Bool.{Bool, true, false, not, and-true}
use mathlib.Core.List.{List, [], ◌∷◌}
use Prim.Native.Nat.{ℕ, ◌≤◌, ◌<◌}
use native.Mathlib.Omega.{arith}
use lib.ListN.{length, length-drop}
use lib.Dec.{eqb}
use Rattle.std.specs.List.{starts_with}
use borrow.Author.Tests.{le-leb, lt-leb, eq-eqb, ne_eqb, eqb-true, eqb-false, not-true, not-false}
use Rattle.checks.specs.declared.Check.{Check}
use Rattle.checks.specs.declared.Check.TheVariants.{Length, Mark, Version, Entries, OnePart, AtEnd}
use Rattle.checks.specs.Answer.{Answer, refused, taken, next}
use Rattle.slicing.specs.Tree.{Tree, gauges_of, sizes_of}
use Rattle.entries.specs.declared.Cursor.{Cursor}
use Rattle.facefile.specs.declared.Counts.{Counts}
use Rattle.sizes.specs.Rules.{Rules}
use Rattle.sizes.specs.GaugeSizes.{field, within, version_rules}
use Rattle.entries.specs.Entry.{State, entries}
use Rattle.facefile.specs.Format.{marked, header, rules_of, start, one_part, at_end, face_of}
use Rattle.facefile.specs.Summary.{counted, answered, summary}
use Rattle.entries.specs.inside.Tracking.{flat, Fair, Follows}
use Rattle.facefile.specs.inside.Ending.{Ends}
use Rattle.facefile.proofs.Taken.{header_taken}

-- The first three bytes, as the code tests them.
abbrev fce : List ℕ
fce = 0x46 ∷ 0x43 ∷ 0x45 ∷ []

flipped : (m n : ℕ) → eqb m n ≡ eqb n m
flipped m n = by (eqb n m) refl
  where
    by : (b : Bool) → eqb n m ≡ b → eqb m n ≡ b
    by true e = eq-eqb m n (sym (eqb-true n m e))
    by false e = ne_eqb m n (λ h. eqb-false n m e (sym h))

begins : (s : List ℕ) → 7 ≤ length s → starts_with eqb s fce ≡ marked s
begins [] h = absurd (omega arith)
begins (a ∷ []) h = absurd (omega arith)
begins (a ∷ b ∷ []) h = absurd (omega arith)
begins (a ∷ b ∷ c ∷ s) h = rw (flipped 0x46 a, flipped 0x43 b, flipped 0x45 c, and-true (eqb c 0x45)) refl

-- The header: one law for each way out.
module _ (s : List ℕ) where
  pub header_short : length s < 7 → refused Length ≡ header s
  unfolding header
  header_short h = simp (lt-leb 7 (length s) h)

  module _ (long : 7 ≤ length s) (b : Bool) (same : b ≡ starts_with eqb s fce) where
    pub header_unmarked : not b ≡ true → refused Mark ≡ header s
    unfolding header
    header_unmarked h = simp (le-leb 7 (length s) long, sym (begins s long) ∙ sym same ∙ not-true b h)

    module _ (good : not b ≡ false) where
      mark : marked s ≡ true
      mark = sym (begins s long) ∙ sym same ∙ not-false b good

      module _ (v : ℕ) (version : v ≡ field s 3) (u : Bool) (known : u ≡ within 1 2 v) where
        pub header_version : not u ≡ true → refused Version ≡ header s
        unfolding header
        header_version h =
            let other : within 1 2 (field s 3) ≡ false = ap (within 1 2) (sym version) ∙ sym known ∙ not-true u h in
            simp (le-leb 7 (length s) long, mark, other)

        module _ (fine : not u ≡ false) (k : ℕ) (count : k ≡ field s 5) (w : Bool) (e : w ≡ within 1 127 k) where
          one_or_two : within 1 2 (field s 3) ≡ true
          one_or_two = ap (within 1 2) (sym version) ∙ sym known ∙ not-false u fine

          pub header_count : not w ≡ true → refused Entries ≡ header s
          unfolding header
          header_count h =
              let outside : within 1 127 (field s 5) ≡ false = ap (within 1 127) (sym count) ∙ sym e ∙ not-true w h in
              simp (le-leb 7 (length s) long, mark, one_or_two, outside)

          pub header_good : not w ≡ false → taken k ≡ header s
          unfolding header
          header_good h =
              let inside : within 1 127 (field s 5) ≡ true = ap (within 1 127) (sym count) ∙ sym e ∙ not-false w h in
              rw count (simp (le-leb 7 (length s) long, mark, one_or_two, inside))

-- The end: one law for each way out.
module _ (file : List ℕ) (c : Cursor) where
  not_one : (parts : List Tree) (rest : List ℕ) → (length parts ≡ 1 → ⊥) → one_part parts rest ≡ refused OnePart
  unfolding one_part
  not_one [] rest h = refl
  not_one (t ∷ []) rest h = absurd (h refl)
  not_one (t ∷ a ∷ parts) rest h = refl

  pub end_parts : (c.parts ≡ 1 → ⊥) → Ends file c (refused OnePart)
  unfolding Ends at_end counted
  end_parts h s t = ap counted (sym (not_one s.stack s.rest (λ one. h (sym t.parts ∙ one))))

  not_at_end : (parts : List Tree) (rest : List ℕ) → length parts ≡ 1 → (length rest ≡ 0 → ⊥) → one_part parts rest ≡ refused AtEnd
  unfolding one_part
  not_at_end [] rest e h = absurd (omega arith)
  not_at_end (t ∷ []) rest e h = simp (ne_eqb (length rest) 0 h)
  not_at_end (t ∷ a ∷ parts) rest e h = absurd (omega arith)

  pub end_left : Fair file c → c.parts ≡ 1 → (c.at ≡ length file → ⊥) → Ends file c (refused AtEnd)
  unfolding Ends at_end counted
  end_left fair one h s t =
      let left = ap length t.rest ∙ length-drop c.at file in
      let inside = fair.inside in
      let some : length s.rest ≡ 0 → ⊥ = λ z. h (omega arith) in
      ap counted (sym (not_at_end s.stack s.rest (t.parts ∙ one) some))

one_left : (parts : List Tree) (rest : List ℕ) (g n : ℕ) → length parts ≡ 1 → length rest ≡ 0 → length (flat gauges_of parts) ≡ g → length (flat sizes_of parts) ≡ n → taken (record { gauges = g; sizes = n }) ≡ counted (one_part parts rest)
unfolding counted one_part
one_left [] rest g n one none gauges sizes = absurd (omega arith)
one_left (t ∷ []) rest g n one none gauges sizes = rw (← gauges, ← sizes) (simp (eq-eqb (length rest) 0 none))
one_left (t ∷ a ∷ parts) rest g n one none gauges sizes = absurd (omega arith)

pub end_taken : (file : List ℕ) (c : Cursor) → c.parts ≡ 1 → c.at ≡ length file → Ends file c (taken (record { gauges = c.gauges; sizes = c.sizes }))
unfolding Ends at_end
end_taken file c one h s t =
    let left = ap length t.rest ∙ length-drop c.at file in
    one_left s.stack s.rest c.gauges c.sizes (t.parts ∙ one) (omega arith) t.gauge_total t.size_total

-- The entries from a state on, and then the end: what they answer says what all answers.
module _ (file : List ℕ) (rules : Rules) (from : State) (k : ℕ) (r : Answer Cursor) (follows : Follows file (entries rules k from) r) where
  pub read_fair : (c : Cursor) → r ≡ taken c → Fair file c
  read_fair c e = by (entries rules k from) (subst (λ (x : Answer Cursor). Follows file (entries rules k from) x) e follows)
    where
      by : (a : Answer State) → Follows file a (taken c) → Fair file c
      by (refused x) h = absurd h
      by (taken s) h = h.0

  module _ (face : Answer Tree) (all : next (entries rules k from) at_end ≡ face) where
    pub read_stop : (e : Check) → r ≡ refused e → refused e ≡ counted face
    unfolding counted
    read_stop e is =
        rw (← all) (by (entries rules k from) (subst (λ (x : Answer Cursor). Follows file (entries rules k from) x) is follows))
      where
        by : (a : Answer State) → Follows file a (refused e) → refused e ≡ counted (next a at_end)
        by (refused c) h = ap (λ (x : Check). refused x) h
        by (taken s) h = absurd h

    pub read_next : (c : Cursor) (f : Answer Counts) → r ≡ taken c → Ends file c f → f ≡ counted face
    unfolding Ends
    read_next c f e ends =
        rw (← all) (by (entries rules k from) (subst (λ (x : Answer Cursor). Follows file (entries rules k from) x) e follows))
      where
        by : (a : Answer State) → Follows file a (taken c) → f ≡ counted (next a at_end)
        by (refused x) h = absurd h
        by (taken s) h = ends s h.1

-- The whole file, by its header.
pub read_header : (file : List ℕ) (e : Check) → refused e ≡ header file → refused e ≡ counted (face_of file)
unfolding face_of counted
read_header file e head =
    ap (λ (a : Answer ℕ). counted (next a (λ count. next (entries (rules_of file) count (start file)) at_end))) head

module _ (file : List ℕ) (k : ℕ) (head : taken k ≡ header file) where
  pub header_long : 7 ≤ length file
  header_long = (header_taken file k (sym head)).0.long

  pub headed : (v : ℕ) → v ≡ field file 3 → next (entries (version_rules v) k (start file)) at_end ≡ face_of file
  unfolding face_of
  headed v version =
      ap (λ (x : ℕ). next (entries (version_rules x) k (start file)) at_end) version
      ∙ ap (λ (a : Answer ℕ). next a (λ j. next (entries (rules_of file) j (start file)) at_end)) head

-- The answer as a number with the counts beside it.
pub answer_summary : (a : Answer Tree) → answered (counted a) ≡ summary a
unfolding counted summary
answer_summary (refused c) = refl
answer_summary (taken t) = refl

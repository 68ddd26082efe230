-- Values that are written on a page in turn are written together, and fit where all of them fit; what is written on a new page is printed.
-- Each part goes to the place after the one before it, in the same buffer.
use mathlib.Core.Path.{◌≡◌, refl, sym, subst, ◌∙◌}
use mathlib.Core.List.{List, [], ◌++◌}
use Prim.Native.Nat.{ℕ, ◌≤◌}
use native.Mathlib.Omega.{arith}
use lib.ListN.{length}
use Rattle.std.specs.Borrow.{MutBor}
use Rattle.text.specs.declared.page.Page.{Page}
use Rattle.text.specs.Printing.{Printed, Counted}
use Rattle.text.specs.inside.Appending.{Appended}
use Rattle.text.specs.inside.Writing.{Fits, Wrote}
use Rattle.text.proofs.Appends.{nothing, same_bytes, joined, first_room, rest_room, from_start, counted}

module _ {A : Type 0} (p : Page A) where
  pub wrote_nothing : Wrote p [] p
  wrote_nothing = record { same = refl; appended = nothing p.buffer.now p.at }

  -- The same values otherwise written.
  pub same_fit : (a b : List A) → a ≡ b → Fits p a → Fits p b
  same_fit a b e f = subst (Fits p) e f

  pub same_wrote : (a b : List A) (q : Page A) → a ≡ b → Wrote p a q → Wrote p b q
  same_wrote a b q e s = record { same = s.same; appended = same_bytes s.appended e }

  module _ (a b : List A) where
    pub first_fits : Fits p (a ++ b) → Fits p a
    first_fits f = record { room = first_room p.buffer.now p.at a b f.room }

    module _ (q : Page A) (s : Wrote p a q) where
      pub rest_fits : Fits p (a ++ b) → Fits q b
      rest_fits f = record { room = rest_room p.buffer.now p.at a b f.room q.buffer.now q.at s.appended }

      pub both_wrote : (r : Page A) → Wrote q b r → Wrote p (a ++ b) r
      both_wrote r t = record { same = t.same ∙ s.same; appended = joined s.appended t.appended }

-- A page on which nothing is written.
abbrev pub blank : {A : Type 0} → MutBor (List A) → Page A
blank buffer = record { buffer = buffer; at = 0 }

module _ (buffer : MutBor (List ℕ)) (p : Page ℕ) (empty : p ≡ blank buffer) (bytes : List ℕ) where
  pub blank_fits : length bytes ≤ length buffer.now → Fits p bytes
  blank_fits room = subst (λ (x : Page ℕ). Fits x bytes) (sym empty) (record { room = omega arith })

  -- In the end the buffer is as the last page has it.
  module _ (q : Page ℕ) (s : Wrote p bytes q) (new : List ℕ) (end : new ≡ q.buffer.now) where
    pub blank_wrote : Appended buffer.now 0 bytes new q.at
    blank_wrote =
        subst (λ (l : List ℕ). Appended buffer.now 0 bytes l q.at) (sym end) (subst (λ (x : Page ℕ). Wrote x bytes q) empty s).appended

    pub blank_printed : length bytes ≤ length buffer.now → Printed bytes buffer.now new q.at
    blank_printed room = from_start blank_wrote room

    pub blank_counted : (most : ℕ) → length bytes ≤ most → most ≤ length buffer.now → Counted most new q.at
    blank_counted most few room = counted blank_wrote few room

-- What the loop over the entries of a taken file keeps: what is left of it, and that the words of the parts on its stack are written.
-- An entry writes its own words, as `Coding` has it; at the end the stack is the face.
use mathlib.Core.Path.{◌≡◌}
use mathlib.Core.List.{List, ◌∷◌, []}
use Prim.Native.Nat.{ℕ, ◌≤◌}
use lib.ListN.{drop}
use Rattle.std.specs.Prelude.{Option, Some, None}
use Rattle.std.specs.Borrow.{Bor}
use Rattle.checks.specs.Answer.{taken}
use Rattle.slicing.specs.Tree.{Tree, gauge}
use Rattle.sizes.specs.inside.Sizes.{sizes_in, Sized}
use Rattle.entries.specs.inside.Kinds.{byte_of}
use Rattle.entries.specs.declared.kinds.Kind.{Kind}
use Rattle.facefile.specs.Format.{rules_of, start, face_of}
use Rattle.facefile.specs.declared.entry.Entry.{Entry}
use Rattle.facefile.specs.declared.entry.Entry.TheVariants.{Gauge, Join}
use Rattle.facefile.specs.declared.entry.Entries.{Entries}
use Rattle.facefile.specs.inside.Entries.{Walk, count_of, GaugeNext, JoinNext}
use Rattle.facefile.specs.inside.Entries.Gives.{rest_of, Gives}
use Rattle.facefile.proofs.EntryWalk.{walk_start}
use Rattle.facefile.proofs.EntrySteps.{came_none, came_gauge, came_join}
use Rattle.writing.specs.Words.{list_words}
use Rattle.written.specs.EntriesOf.{entries_of}
use Rattle.text.specs.declared.page.Page.{Page}
use Rattle.text.specs.inside.Writing.{Fits, Wrote}
use Rattle.saving.proofs.Coding.{Coding, coding_start, coding_end, gauge_room, coding_gauge, join_room, coding_join}

abbrev pub Putting : Page ℕ → List ℕ → List ℕ → Page ℕ → Type 0
Putting old file rest now = Coding (face_of file) (rules_of file) (start file) list_words old rest now

module _ (old : Page ℕ) (file : List ℕ) where
  pub putting_start : (of it : Entries) → (t : Tree) × (face_of file ≡ taken t) × Fits old (entries_of list_words t) → rest_of of ≡ drop 7 file → it ≡ of → Putting old file (rest_of it) old
  putting_start of it t r same =
      rw (same, r) (coding_start (face_of file) (rules_of file) (start file) list_words old t.0 (drop 7 file) (walk_start file t.0 t.1) t.2)

  module _ (now : Page ℕ) (s u : Entries) (p : Putting old file (rest_of s) now) where
    module _ (r : Entry) (came : Gives s (Some r) u) where
      module _ (sizes : Bor (List ℕ)) (e : r ≡ Gauge sizes) (count : ℕ) (counted : count ≡ count_of sizes.now) where
        here : GaugeNext file p.face p.stack (rest_of s) sizes.now (rest_of u)
        here = came_gauge file p.face p.stack s u p.walk r came sizes e

        abbrev own : Tree
        own = gauge (sizes_in count sizes.now)

        walk : Walk file p.face (rest_of u) (own ∷ p.stack)
        walk = rw counted here.walk

        pub putting_fits : (count ≤ 8) × Sized count sizes.now × Fits now (entries_of list_words own)
        putting_fits = (
          rw counted here.few,
          rw counted here.sized,
          gauge_room (face_of file) (rules_of file) (start file) list_words old (rest_of s) now p (sizes_in count sizes.now) (rest_of u) walk,
        )

        pub putting_gauge : (new : Page ℕ) → Wrote now (entries_of list_words own) new → Putting old file (rest_of u) new
        putting_gauge =
            coding_gauge (face_of file) (rules_of file) (start file) list_words old (rest_of s) now p (sizes_in count sizes.now) (rest_of u) walk

      module _ (kind : Kind) (e : r ≡ Join kind) where
        join : JoinNext (Walk file p.face) p.stack (rest_of s) kind (rest_of u)
        join = came_join file p.face p.stack s u p.walk r came kind e

        pub putting_room : Fits now (byte_of kind ∷ [])
        putting_room =
            join_room (face_of file) (rules_of file) (start file) list_words old (rest_of s) now p kind (rest_of u) join

        pub putting_join : (new : Page ℕ) → Wrote now (byte_of kind ∷ []) new → Putting old file (rest_of u) new
        putting_join =
            coding_join (face_of file) (rules_of file) (start file) list_words old (rest_of s) now p kind (rest_of u) join

    pub putting_end : (r : Option Entry) → r ≡ None → Gives s r u → (t : Tree) → face_of file ≡ taken t → Wrote old (entries_of list_words t) now
    putting_end r e came =
        coding_end (face_of file) (rules_of file) (start file) list_words old (rest_of s) now p
        (came_none file p.face p.stack s u p.walk r e came)

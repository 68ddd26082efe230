-- What the loop over the entries of taken words keeps: what is left of them, and that the bytes of the parts on its stack are written.
-- An entry writes its own bytes, as `Coding` has it; at the end the stack is the face.
use mathlib.Core.Path.{◌≡◌}
use mathlib.Core.List.{List, ◌∷◌, []}
use Prim.Native.Nat.{ℕ}
use lib.ListN.{drop}
use Rattle.std.specs.Prelude.{Option, Some, None}
use Rattle.std.specs.Borrow.{Bor}
use Rattle.checks.specs.Answer.{taken}
use Rattle.slicing.specs.Item.{Item}
use Rattle.slicing.specs.Tree.{Tree, gauge}
use Rattle.entries.specs.inside.Kinds.{byte_of}
use Rattle.entries.specs.declared.kinds.Kind.{Kind}
use Rattle.facefile.specs.Gauge.{size_bytes}
use Rattle.facefile.specs.inside.Entries.{JoinNext}
use Rattle.written.specs.EntriesOf.{entries_of}
use Rattle.facewords.specs.Words.{word_rules, words_start, words_face}
use Rattle.facewords.specs.declared.entry.Entry.{Entry}
use Rattle.facewords.specs.declared.entry.Entry.TheVariants.{Gauge, Join}
use Rattle.facewords.specs.declared.entry.Entries.{Entries}
use Rattle.facewords.specs.inside.Entries.{WordRun, GaugeNext}
use Rattle.facewords.specs.inside.Entries.Gives.{rest_of, Gives}
use Rattle.facewords.proofs.EntryRun.{run_start, came_none, came_gauge, came_join}
use Rattle.text.specs.declared.page.Page.{Page}
use Rattle.text.specs.inside.Writing.{Fits, Wrote}
use Rattle.gauges.specs.inside.GaugeWords.{GaugeWords}
use Rattle.saving.proofs.Coding.{Coding, coding_start, coding_end, gauge_room, coding_gauge, join_room, coding_join}

abbrev pub Writing : Page ℕ → List ℕ → List ℕ → Page ℕ → Type 0
Writing old words rest now = Coding (words_face words) word_rules (words_start words) size_bytes old rest now

module _ (old : Page ℕ) (words : List ℕ) where
  pub writing_start : (of it : Entries) → (t : Tree) × (words_face words ≡ taken t) × Fits old (entries_of size_bytes t) → rest_of of ≡ drop 1 words → it ≡ of → Writing old words (rest_of it) old
  writing_start of it t r same =
      rw (same, r) (coding_start (words_face words) word_rules (words_start words) size_bytes old t.0 (drop 1 words) (run_start words t.0 t.1) t.2)

  module _ (now : Page ℕ) (s u : Entries) (p : Writing old words (rest_of s) now) where
    module _ (r : Entry) (came : Gives s (Some r) u) where
      module _ (sizes : Bor (List ℕ)) (e : r ≡ Gauge sizes) where
        here : GaugeNext words p.face p.stack sizes.now (rest_of u)
        here = came_gauge words p.face p.stack s u p.walk r came sizes e

        words_here : GaugeWords sizes.now here.items
        words_here = record { good = here.good; same = here.same }

        pub writing_fits : (z : List Item) × GaugeWords sizes.now z × Fits now (entries_of size_bytes (gauge z))
        writing_fits = (
          here.items,
          words_here,
          gauge_room (words_face words) word_rules (words_start words) size_bytes old (rest_of s) now p here.items (rest_of u) here.walk,
        )

        pub writing_gauge : (new : Page ℕ) → ((z : List Item) → GaugeWords sizes.now z → Wrote now (entries_of size_bytes (gauge z)) new) → Writing old words (rest_of u) new
        writing_gauge new put =
            coding_gauge (words_face words) word_rules (words_start words) size_bytes old (rest_of s) now p here.items (rest_of u) here.walk new (put here.items words_here)

      module _ (kind : Kind) (e : r ≡ Join kind) where
        join : JoinNext (WordRun words p.face) p.stack (rest_of s) kind (rest_of u)
        join = came_join words p.face p.stack s u p.walk r came kind e

        pub writing_room : Fits now (byte_of kind ∷ [])
        writing_room =
            join_room (words_face words) word_rules (words_start words) size_bytes old (rest_of s) now p kind (rest_of u) join

        pub writing_join : (new : Page ℕ) → Wrote now (byte_of kind ∷ []) new → Writing old words (rest_of u) new
        writing_join =
            coding_join (words_face words) word_rules (words_start words) size_bytes old (rest_of s) now p kind (rest_of u) join

    pub writing_end : (r : Option Entry) → r ≡ None → Gives s r u → (t : Tree) → words_face words ≡ taken t → Wrote old (entries_of size_bytes t) now
    writing_end r e came =
        coding_end (words_face words) word_rules (words_start words) size_bytes old (rest_of s) now p
        (came_none words p.face p.stack s u p.walk r e came)

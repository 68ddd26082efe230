-- What was read is what the tree is written as: of a taken file the bytes after its header, and of taken words those after the first. So the gauges and sizes stand in the order of the file.
-- An entry moves its own bytes or words from what is left to what the newest parts are written as, and leaves the two together as they were.
use mathlib.Core.Path.{◌≡◌, refl, sym, ap, ◌∙◌}
use mathlib.Core.List.{List, [], ◌∷◌, ◌++◌, append-nil, append_assoc}
use Prim.Native.Nat.{ℕ, ◌*◌, ◌≤◌}
use lib.ListN.{length, take, drop, take-append-drop}
use Rattle.checks.specs.Answer.{taken}
use Rattle.slicing.specs.Item.{Item}
use Rattle.slicing.specs.Tree.{Tree, gauge}
use Rattle.sizes.specs.Rules.{Rules}
use Rattle.sizes.specs.GaugeSizes.{field, version_rules, sizes_from}
use Rattle.sizes.proofs.GoodSizes.{sizes_taken}
use Rattle.entries.specs.Entry.{State}
use Rattle.entries.specs.inside.Tracking.{flat}
use Rattle.entries.specs.inside.Kinds.{Cut, cut_beside, cut_stacked}
use Rattle.entries.proofs.Took.{state, Took, took_gauge, took_join, Reads, reads_none, reads_more}
use Rattle.facefile.specs.Format.{Bytes, face_of}
use Rattle.facefile.specs.Gauge.{size_bytes}
use Rattle.facefile.proofs.SizeBytes.{bytes_drop, sizes_bytes}
use Rattle.facefile.proofs.Taken.{face_read}
use Rattle.written.specs.EntriesOf.{entries_of}

-- What an entry is coded as, and the entries of a run.
module _ (code : List Item → List ℕ) where
  pub written_cut : (kind : ℕ) (cut : Tree → Tree → Tree) (a b : Tree) → Cut kind cut → entries_of code (cut a b) ≡ entries_of code a ++ (entries_of code b ++ (kind ∷ []))
  written_cut kind cut a b cut_beside = refl
  written_cut kind cut a b cut_stacked = refl

  -- A join's kind is coded after its parts.
  pub join_written : (kind : ℕ) (cut : Tree → Tree → Tree) (a b : Tree) (parts : List Tree) → Cut kind cut → flat (entries_of code) (cut a b ∷ parts) ≡ flat (entries_of code) (b ∷ a ∷ parts) ++ (kind ∷ [])
  join_written kind cut a b parts c =
      ap (λ (l : List ℕ). flat (entries_of code) parts ++ l) (written_cut kind cut a b c) ∙ simp append_assoc

  took_written : {rules : Rules} (s t : State) → Took rules s t → (more : List ℕ) × (flat (entries_of code) t.stack ≡ flat (entries_of code) s.stack ++ more)
  took_written s t (took_gauge count l parts g z few some most present sized) = (entries_of code (gauge z), refl)
  took_written s t (took_join kind cut l a b parts g c) = (kind ∷ [], join_written kind cut a b parts c)

  -- A run only adds to what is coded.
  pub reads_written : {rules : Rules} (k : ℕ) (s t : State) → Reads rules k s t → (more : List ℕ) × (flat (entries_of code) t.stack ≡ flat (entries_of code) s.stack ++ more)
  reads_written k s t (reads_none x) = ([], sym (append-nil (flat (entries_of code) s.stack)))
  reads_written k s t (reads_more j x u y first rest) =
      let p = took_written s u first in
      let q = reads_written j u t rest in
      (p.0 ++ q.0, q.1 ∙ ap (λ (l : List ℕ). l ++ q.0) p.1 ∙ append_assoc (flat (entries_of code) s.stack) p.0 q.0)

-- Sizes that are read by the rules stand there as `code` says, wherever P holds of what is read.
pub record Decodes (rules : Rules) (code : List Item → List ℕ) (P : List ℕ → Type 0) : Type 0 where
  pub on : (k : ℕ) (l : List ℕ) → P l → P (drop k l)
  pub coded : (count : ℕ) (l : List ℕ) (z : List Item) → P l → rules.step * count ≤ length l → sizes_from rules count l ≡ taken z → take (rules.step * count) l ≡ code z

module _ (rules : Rules) (code : List Item → List ℕ) (P : List ℕ → Type 0) (decodes : Decodes rules code P) where
  -- What was read, and what is left.
  abbrev whole : State → List ℕ
  whole s = flat (entries_of code) s.stack ++ s.rest

  gauge_written : (count : ℕ) (l : List ℕ) (z : List Item) → P l → 1 ≤ count → count ≤ 8 → rules.step * count ≤ length l → sizes_from rules count l ≡ taken z → entries_of code (gauge z) ++ drop (rules.step * count) l ≡ 0x01 ∷ count ∷ l
  gauge_written count l z p some most present sized =
      rw ((sizes_taken rules count l z some most sized).as_many, ← decodes.coded count l z p present sized)
      (ap (λ (x : List ℕ). 0x01 ∷ count ∷ x) (take-append-drop (rules.step * count) l))

  took_whole : (s t : State) → Took rules s t → P s.rest → (whole t ≡ whole s) × P t.rest
  took_whole s t (took_gauge count l parts g z few some most present sized) p =
      let rest = decodes.on 2 (0x01 ∷ count ∷ l) p in (
        append_assoc (flat (entries_of code) parts) (entries_of code (gauge z)) (drop (rules.step * count) l)
            ∙ ap (λ (x : List ℕ). flat (entries_of code) parts ++ x) (gauge_written count l z rest some most present sized),
        decodes.on (rules.step * count) l rest,
      )
  took_whole s t (took_join kind cut l x y parts g c) p = (
    ap (λ (w : List ℕ). w ++ l) (join_written code kind cut x y parts c)
        ∙ append_assoc (flat (entries_of code) (y ∷ x ∷ parts)) (kind ∷ []) l,
    decodes.on 1 (kind ∷ l) p,
  )

  reads_whole : (k : ℕ) (s t : State) → Reads rules k s t → P s.rest → whole t ≡ whole s
  reads_whole k s t (reads_none x) p = refl
  reads_whole k s t (reads_more j x u y first rest) p =
      let one = took_whole s u first p in
      reads_whole j u t rest one.1 ∙ one.0

  -- A run that ends with one part and nothing left has read what that part is written as.
  pub all_written : (k : ℕ) (l : List ℕ) (t : Tree) (last : ℕ) → P l → Reads rules k (state l [] 0) (state [] (t ∷ []) last) → l ≡ entries_of code t
  all_written k l t last p reads =
      sym (sym (append-nil (entries_of code t)) ∙ reads_whole k (state l [] 0) (state [] (t ∷ []) last) reads p)

bytes_decode : (v : ℕ) → Decodes (version_rules v) size_bytes Bytes
bytes_decode v = record { on = bytes_drop; coded = sizes_bytes v }

pub face_written : (s : List ℕ) (t : Tree) → Bytes s → face_of s ≡ taken t → drop 7 s ≡ entries_of size_bytes t
face_written s t b e =
    let read = face_read s t e in
    all_written (version_rules (field s 3)) size_bytes Bytes (bytes_decode (field s 3)) (field s 5) (drop 7 s) t read.last (bytes_drop 7 s b) read.reads

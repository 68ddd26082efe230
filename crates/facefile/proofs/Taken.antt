-- What every taken file is: a good tree of at most 64 gauges and 512 sizes, with one entry fewer than twice its gauges.
-- Each entry keeps the parts good and the gauges counted, and twice the gauges is always the entries and the parts together.
use mathlib.Core.Path.{◌≡◌, refl, ap, ◌∙◌}
use mathlib.Core.Bool.{true}
use mathlib.Core.List.{List, [], ◌∷◌}
use Prim.Native.Nat.{ℕ, suc, ◌+◌, ◌*◌, ◌≤◌}
use native.Mathlib.Nat.{zero-add}
use native.Mathlib.Omega.{arith}
use lib.ListN.{length, length-append}
use lib.Dec.{leb, eqb}
use borrow.Author.Tests.{leb-true, eqb-true}
use Rattle.checks.specs.Answer.{taken, next}
use Rattle.checks.proofs.Answers.{not_both, same_taken, ask_taken, next_taken}
use Rattle.slicing.specs.Tree.{Tree, gauges_of, gauge_count, size_count}
use Rattle.slicing.specs.Good.{Good}
use Rattle.slicing.proofs.Counts.{counted}
use Rattle.sizes.specs.Rules.{Rules}
use Rattle.sizes.specs.GaugeSizes.{field, within}
use Rattle.entries.specs.Entry.{State, entries}
use Rattle.facefile.specs.Format.{marked, header, rules_of, start, one_part, at_end, face_of}
use Rattle.entries.specs.inside.Tracking.{flat}
use Rattle.entries.specs.inside.Kinds.{Cut, cut_beside, cut_stacked}
use Rattle.sizes.proofs.SizeChecks.{within_true}
use Rattle.entries.proofs.Took.{state, Took, took_gauge, took_join, Reads, reads_none, reads_more, entries_read}
use Rattle.sizes.proofs.GoodSizes.{sizes_taken}
use Rattle.entries.proofs.Stacks.{join_flat, gauges_join}

-- What a taken header says.
pub record Headed (s : List ℕ) : Type 0 where
  pub long : 7 ≤ length s
  pub mark : marked s ≡ true
  pub version : (1 ≤ field s 3) × (field s 3 ≤ 2)
  pub some : 1 ≤ field s 5
  pub most : field s 5 ≤ 127

pub header_taken : (s : List ℕ) (k : ℕ) → header s ≡ taken k → Headed s × (field s 5 ≡ k)
unfolding header
header_taken s k e =
    let long = ask_taken (leb 7 (length s)) _ _ k e in
    let mark = ask_taken (marked s) _ _ k long.1 in
    let version = ask_taken (within 1 2 (field s 3)) _ _ k mark.1 in
    let count = ask_taken (within 1 127 (field s 5)) _ _ k version.1 in
    let range = within_true 1 127 (field s 5) count.0 in (
      record {
        long = leb-true 7 (length s) long.0;
        mark = mark.0;
        version = within_true 1 2 (field s 3) version.0;
        some = range.0;
        most = range.1;
      },
      same_taken (field s 5) k count.1,
    )

-- How a taken file was read: its header, and its entries to one part and no byte left.
pub record FaceRead (s : List ℕ) (t : Tree) : Type 0 where
  pub headed : Headed s
  pub last : ℕ
  pub reads : Reads (rules_of s) (field s 5) (start s) (state [] (t ∷ []) last)

no_bytes : (l : List ℕ) → length l ≡ 0 → l ≡ []
no_bytes [] e = refl
no_bytes (x ∷ l) e = absurd (omega arith)

pub end_taken : (parts : List Tree) (rest : List ℕ) (t : Tree) → one_part parts rest ≡ taken t → (parts ≡ t ∷ []) × (rest ≡ [])
unfolding one_part
end_taken [] rest t e = absurd (not_both _ t e)
end_taken (x ∷ []) rest t e =
    let done = ask_taken (eqb (length rest) 0) _ _ t e in
    (ap (λ (y : Tree). y ∷ []) (same_taken x t done.1), no_bytes rest (eqb-true (length rest) 0 done.0))
end_taken (x ∷ y ∷ parts) rest t e = absurd (not_both _ t e)

-- Entries from any state to the end of a file that means t.
pub end_read : (rules : Rules) (k : ℕ) (s : State) (t : Tree) → next (entries rules k s) at_end ≡ taken t → (last : ℕ) × Reads rules k s (state [] (t ∷ []) last)
unfolding at_end
end_read rules k s t e =
    let all = next_taken (entries rules k s) at_end t e in
    let ended = end_taken all.0.stack all.0.rest t all.2 in
    (all.0.gauges, rw (← ended.0, ← ended.1) (entries_read rules k s all.0 all.1))

pub face_read : (s : List ℕ) (t : Tree) → face_of s ≡ taken t → FaceRead s t
unfolding face_of
face_read s t e =
    let head = next_taken (header s) (λ count. next (entries (rules_of s) count (start s)) at_end) t e in
    let first = header_taken s head.0 head.1 in
    let rest = end_read (rules_of s) head.0 (start s) t head.2 in
    record { headed = first.0; last = rest.0; reads = rw first.1 rest.1 }

abbrev pub GoodParts : List Tree → Type 0
GoodParts [] = Unit {0}
GoodParts (t ∷ parts) = Good t × GoodParts parts

-- What holds of the state after k entries.
pub record Sound (k : ℕ) (s : State) : Type 0 where
  pub good : GoodParts s.stack
  pub counted : length (flat gauges_of s.stack) ≡ s.gauges
  pub few : s.gauges ≤ 64
  pub balance : 2 * s.gauges ≡ k + length s.stack

good_cut : (kind : ℕ) (cut : Tree → Tree → Tree) (a b : Tree) → Cut kind cut → Good a → Good b → Good (cut a b)
good_cut kind cut a b cut_beside x y = (x, y)
good_cut kind cut a b cut_stacked x y = (x, y)

pub took_sound : {rules : Rules} (k : ℕ) (s t : State) → Sound k s → Took rules s t → Sound (suc k) t
took_sound k s t h (took_gauge count bytes parts g z few some most present sized) =
    record {
      good = ((sizes_taken _ count bytes z some most sized).good, h.good);
      counted = length-append (flat gauges_of parts) (z ∷ []) ∙ ap (λ (n : ℕ). n + 1) h.counted;
      few = omega arith;
      balance = let b = h.balance in omega arith;
    }
took_sound k s t h (took_join kind cut bytes a b parts g c) =
    record {
      good = (good_cut kind cut a b c h.good.1.0 h.good.0, h.good.1.1);
      counted = ap length (join_flat gauges_of gauges_join kind cut a b parts c) ∙ h.counted;
      few = h.few;
      balance = let b = h.balance in omega arith;
    }

pub reads_sound : {rules : Rules} (j k : ℕ) (s t : State) → Sound j s → Reads rules k s t → Sound (k + j) t
reads_sound j k s t h (reads_none x) = rw zero-add h
reads_sound j k s t h (reads_more i x u y first rest) =
    let more = reads_sound (suc j) i u t (took_sound j s u h first) rest in
    record { good = more.good; counted = more.counted; few = more.few; balance = let b = more.balance in omega arith }

pub start_sound : (s : List ℕ) → Sound 0 (start s)
start_sound s = record { good = tt; counted = refl; few = omega arith; balance = refl }

-- A taken face.
pub record TakenFace (s : List ℕ) (t : Tree) : Type 0 where
  pub good : Good t
  pub some : 1 ≤ gauge_count t
  pub few : gauge_count t ≤ 64
  pub least : gauge_count t ≤ size_count t
  pub most : size_count t ≤ 512
  pub entries_counted : field s 5 + 1 ≡ 2 * gauge_count t
  pub entries_few : field s 5 ≤ 127

pub face_taken : (s : List ℕ) (t : Tree) → face_of s ≡ taken t → TakenFace s t
face_taken s t e =
    let read = face_read s t e in
    let sound = reads_sound 0 (field s 5) (start s) (state [] (t ∷ []) read.last) (start_sound s) read.reads in
    let count = counted t sound.good.0 in
    let g : gauge_count t ≡ read.last = sound.counted in
    let few = sound.few in
    let balance = sound.balance in
    record {
      good = sound.good.0;
      some = count.some;
      few = omega arith;
      least = count.least;
      most = let m = count.most in omega arith;
      entries_counted = omega arith;
      entries_few = read.headed.most;
    }

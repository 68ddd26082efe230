-- A field is the last two bytes of its number, and what the loop over a gauge's sizes keeps: the fields of the sizes left complete those of all.
-- A turn writes the two fields of the first size left, both below 65,536, and at the end no size is left.
use mathlib.Core.Path.{◌≡◌, refl, sym, ap, ap₂, subst, ◌∙◌}
use mathlib.Core.List.{List, [], ◌∷◌, ◌++◌, Memᴰ}
use Prim.Native.Nat.{ℕ, zero, suc, ◌*◌, ◌/◌, ◌%◌, ◌<◌}
use native.Mathlib.Omega.{arith}
use lib.ListN.{length, get_or, take, drop}
use mir.Syntax.{w32}
use Rattle.std.specs.Int.{to_be_bytes}
use Rattle.std.specs.declared.slice.ChunksExact.{ChunksExact}
use Rattle.std.specs.Slice.Iter.{chunks_exact_rest, chunks_exact_size}
use Rattle.slicing.specs.Item.{Item, size, height, width}
use Rattle.slicing.specs.Tree.{gauge}
use Rattle.slicing.specs.Good.{Limited}
use Rattle.facefile.specs.Gauge.{size_bytes}
use Rattle.writing.specs.Words.{list_words}
use Rattle.writing.proofs.WordLaws.{words_length}
use Rattle.written.specs.EntriesOf.{entries_of}
use Rattle.written.specs.FileOf.{field_bytes}
use Rattle.text.specs.declared.page.Page.{Page}
use Rattle.text.specs.inside.Writing.{Fits, Wrote}
use Rattle.text.proofs.Appends.{appended_length}
use Rattle.text.proofs.Dues.{Due, due_start, due_more, due_done}
use Rattle.gauges.specs.inside.GaugeWords.{GaugeWords}

-- The last two of a number's four bytes.
pub last_two : (x : ℕ) (bytes : List ℕ) → x < 65_536 → bytes ≡ to_be_bytes w32 x → take 2 (drop 2 bytes) ≡ field_bytes x
last_two x bytes low e =
    ap (λ (l : List ℕ). take 2 (drop 2 l)) e ∙ ap (λ (high : ℕ). high ∷ x % 256 ∷ []) small
  where
    small : x / 256 % 256 ≡ x / 256
    small = omega arith

-- Words hold one list of sizes only.
one_list : (y z : List Item) → list_words y ≡ list_words z → y ≡ z
unfolding list_words
one_list [] [] e = refl
one_list [] (b ∷ z) e = absurd (let long = ap length e in omega arith)
one_list (a ∷ y) [] e = absurd (let long = ap length e in omega arith)
one_list (a ∷ y) (b ∷ z) e =
    ap₂ (λ (x : Item) (l : List Item). x ∷ l)
    (ap₂ size (ap (λ (l : List ℕ). get_or l 0 0) e) (ap (λ (l : List ℕ). get_or l 1 0) e))
    (one_list y z (ap (λ (l : List ℕ). drop 2 l) e))

-- Two words and a rest are those of a size, and of the sizes whose words the rest is.
record First (two rest : List ℕ) (sizes : List Item) : Type 0 where
  first : Item
  more : List Item
  same : sizes ≡ first ∷ more
  high : get_or two 0 0 ≡ height first
  wide : get_or two 1 0 ≡ width first
  left : rest ≡ list_words more

first_size : (two rest : List ℕ) (sizes : List Item) → length two ≡ 2 → two ++ rest ≡ list_words sizes → First two rest sizes
unfolding list_words
first_size (h ∷ w ∷ []) rest (z ∷ sizes) long e =
    record {
      first = z;
      more = sizes;
      same = refl;
      high = ap (λ (l : List ℕ). get_or l 0 0) e;
      wide = ap (λ (l : List ℕ). get_or l 1 0) e;
      left = ap (λ (l : List ℕ). drop 2 l) e;
    }
first_size (h ∷ w ∷ []) rest [] long e = absurd (let short = ap length e in omega arith)
first_size [] rest sizes long e = absurd (omega arith)
first_size (h ∷ []) rest sizes long e = absurd (omega arith)
first_size (h ∷ w ∷ x ∷ two) rest sizes long e = absurd (omega arith)

no_size : (words : List ℕ) (sizes : List Item) → length words < 2 → words ≡ list_words sizes → sizes ≡ []
unfolding list_words
no_size words [] few e = refl
no_size words (z ∷ sizes) few e = absurd (let long = ap length e in omega arith)

-- The words left are those of sizes within the limits, whose fields complete those of all.
pub record SizesDue (old : Page ℕ) (words : List ℕ) (left : ChunksExact ℕ) (now : Page ℕ) : Type 0 where
  pub pairs : chunks_exact_size left ≡ 2
  pub all : List Item
  pub given : words ≡ list_words all
  pub sizes : List Item
  pub same : chunks_exact_rest left ≡ list_words sizes
  pub limited : (z : Item) → Memᴰ z sizes → Limited z
  pub due : Due old (size_bytes all) (size_bytes sizes) now

pub sizes_start : (old : Page ℕ) (words : List ℕ) (left : ChunksExact ℕ) → chunks_exact_size left ≡ 2 → chunks_exact_rest left ≡ words → (z : List Item) × GaugeWords words z × Fits old (size_bytes z) → SizesDue old words left old
sizes_start old words left pairs whole asked =
    record {
      pairs = pairs;
      all = asked.0;
      given = asked.1.same;
      sizes = asked.0;
      same = whole ∙ asked.1.same;
      limited = asked.1.good.limited;
      due = due_start old (size_bytes asked.0) asked.2;
    }

module _ (old : Page ℕ) (words : List ℕ) (left : ChunksExact ℕ) (now : Page ℕ) (s : SizesDue old words left now) where
  module _ (two : List ℕ) (then : ChunksExact ℕ) (size : chunks_exact_size then ≡ chunks_exact_size left) (next : chunks_exact_rest left ≡ two ++ chunks_exact_rest then) (long : length two ≡ chunks_exact_size left) where
    here : First two (chunks_exact_rest then) s.sizes
    here = first_size two (chunks_exact_rest then) s.sizes (long ∙ s.pairs) (sym next ∙ s.same)

    each : (z : Item) → Memᴰ z (here.first ∷ here.more) → Limited z
    each = subst (λ (l : List Item). (z : Item) → Memᴰ z l → Limited z) here.same s.limited

    -- Each of the two words is a field's.
    pub word_fits : (i : ℕ) → i < 2 → get_or two i 0 < 65_536
    word_fits zero below = let low = (each here.first (Memᴰ.head refl)).low in omega (arith, here.high)
    word_fits (suc zero) below = let narrow = (each here.first (Memᴰ.head refl)).narrow in omega (arith, here.wide)
    word_fits (suc (suc i)) below = absurd (omega arith)

    next_due : Due old (size_bytes s.all) (field_bytes (get_or two 0 0) ++ (field_bytes (get_or two 1 0) ++ size_bytes here.more)) now
    next_due = subst (λ (l : List ℕ). Due old (size_bytes s.all) l now) (ap size_bytes here.same ∙ fields) s.due
      where
        fields : size_bytes (here.first ∷ here.more) ≡ field_bytes (get_or two 0 0) ++ (field_bytes (get_or two 1 0) ++ size_bytes here.more)
        fields =
            ap₂ (λ (h : ℕ) (w : ℕ). field_bytes h ++ (field_bytes w ++ size_bytes here.more)) (sym here.high) (sym here.wide)

    -- There is room for two fields, whatever they say.
    pub first_room : (x : ℕ) → Fits now (field_bytes x)
    first_room x = let room = next_due.fits.room in record { room = omega arith }

    pub second_room : (x : ℕ) (mid : Page ℕ) → Wrote now (field_bytes x) mid → (y : ℕ) → Fits mid (field_bytes y)
    second_room x mid t y =
        let room = next_due.fits.room in
        let place = t.appended.place in
        let same = appended_length t.appended in
        record { room = omega arith }

    module _ (mid : Page ℕ) (t : Wrote now (field_bytes (get_or two 0 0)) mid) where
      width_due : Due old (size_bytes s.all) (field_bytes (get_or two 1 0) ++ size_bytes here.more) mid
      width_due =
          due_more old (size_bytes s.all) (field_bytes (get_or two 0 0)) (field_bytes (get_or two 1 0) ++ size_bytes here.more) now next_due mid t

      pub sizes_more : (new : Page ℕ) → Wrote mid (field_bytes (get_or two 1 0)) new → SizesDue old words then new
      sizes_more new u =
          record {
            pairs = size ∙ s.pairs;
            all = s.all;
            given = s.given;
            sizes = here.more;
            same = here.left;
            limited = λ z i. each z (Memᴰ.tail i);
            due = due_more old (size_bytes s.all) (field_bytes (get_or two 1 0)) (size_bytes here.more) mid width_due new u;
          }

  pub sizes_done : length (chunks_exact_rest left) < chunks_exact_size left → (z : List Item) → GaugeWords words z → Wrote old (size_bytes z) now
  sizes_done end z g =
      let pairs = s.pairs in
      let none = no_size (chunks_exact_rest left) s.sizes (omega arith) s.same in
      let due = subst (λ (l : List Item). Due old (size_bytes s.all) (size_bytes l) now) none s.due in
      subst (λ (l : List Item). Wrote old (size_bytes l) now) (one_list s.all z (sym s.given ∙ g.same))
      (due_done old (size_bytes s.all) now due)

-- The words of a gauge's sizes: how many there are.
pub gauge_words : (words : List ℕ) (z : List Item) → GaugeWords words z → length words ≡ 2 * length z
gauge_words words z g = ap length g.same ∙ words_length z

-- A gauge has half as many sizes as words.
module _ (words : List ℕ) (z : List Item) (g : GaugeWords words z) where
  half : length words / 2 ≡ length z
  half = let long = gauge_words words z g in omega arith

  pub gauge_few : length words / 2 < 256
  gauge_few = let few = g.good.few in omega (arith, half)

  pub gauge_same : entries_of size_bytes (gauge z) ≡ 0x01 ∷ length words / 2 ∷ size_bytes z
  gauge_same = ap (λ (n : ℕ). 0x01 ∷ n ∷ size_bytes z) (sym half)

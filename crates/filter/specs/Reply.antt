-- What a program has to say of what it read: the text of the bytes that came, or why a read failed.
use Rattle.std.specs.Prelude.{◌≡◌, List, ℕ, take, Result, Ok, Err}
use Rattle.std.specs.declared.io.Error.{Error}
use Rattle.checks.specs.Answer.{Answer}
use Rattle.slicing.specs.Tree.{Tree}
use Rattle.facefile.specs.Format.{face_of}
use Rattle.input.specs.declared.Input.{Input}
use Rattle.input.specs.Outcome.{arrived}

-- What the text of a face leaves in a buffer and answers: `FacesText` of the program `faces`, `MaterialText` of `material`.
abbrev pub TextOf : Type 1
TextOf = Answer Tree → (old new : List ℕ) (r : ℕ) → Type 0

-- The reply by how many bytes came into a room. It is the length of the text of a file of these bytes. Where a read failed there is no text but the error, and the buffer for it is as it was.
unfoldable pub RepliesBy : TextOf → (came : Result ℕ Error) → (room old new : List ℕ) → (reply : Result ℕ Error) → Type 0
RepliesBy T (Ok n) room old new (Ok r) = T (face_of (take n room)) old new r
RepliesBy T (Ok n) room old new (Err e) = ⊥
RepliesBy T (Err e) room old new reply = (reply ≡ Err e) × (new ≡ old)

-- The reply to what was read into a room.
abbrev pub Replies : TextOf → Input → (room old new : List ℕ) → Result ℕ Error → Type 0
Replies T input room old new reply = RepliesBy T (arrived input.outcome input.length) room old new reply

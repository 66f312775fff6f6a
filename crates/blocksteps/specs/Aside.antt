-- Who is set aside of a block: a mark for each piece says whether it is in the block and whether a piece after it by a
-- direct link is; of those without one, the one that costs least.
use Rattle.std.specs.Prelude.{ℕ, ◌≤◌, ◌<◌, Bool, not, List, map, ◌≡◌, eqb, length, get_or, take, Option as Maybe, Some}
use Rattle.std.specs.Prelude.{None}
use Rattle.std.proofs.Math.Option.{Option, none, some}
use Rattle.rules.specs.Words.{when, keep, one_of}
use Rattle.rules.specs.Blocks.{set_aside}
use Rattle.rules.specs.Tables.{no_link}
use Rattle.rules.specs.declared.Link.{Link}
use Rattle.entries.specs.declared.list.Entry.{Entry}
use Rattle.entries.specs.Lent.{meant, entry_at}
use Rattle.blocksteps.specs.declared.aside.Mark.{Mark}
use Rattle.blocksteps.specs.declared.aside.Mark.TheVariants.{Outside, Member, Led}

-- What is made of a thing, if there is one.
abbrev pub optional : {A B : Type 0} → (A → B) → Maybe A → Option B
optional f None = none
optional f (Some x) = some (f x)

-- A table of marks: what stands for each piece.
pub record Marks (marks : List Mark) (mark : ℕ → Mark) : Type 0 where
  pub sized : length marks ≡ 256
  pub each : (i : ℕ) → i < 256 → get_or marks i Outside ≡ mark i

abbrev pub no_mark : ℕ → Mark
no_mark i = Outside

-- Piece i is one of these.
abbrev pub is_among : List Entry → ℕ → Bool
is_among es i = one_of (λ e. eqb i e.number) es

-- The members among the pieces.
unfoldable pub member_mark : List Entry → ℕ → Mark
unfolding when one_of
member_mark es i = when (is_among es i) Member Outside

-- And those of them that have a piece after them there.
unfoldable pub led_mark : (ℕ → ℕ → Bool) → List Entry → ℕ → Mark
unfolding when one_of
led_mark follows es i = when (is_among es i) (when (one_of (λ e. follows i e.number) es) Led Member) Outside

-- Links between pieces below 256.
pub record Tied (ls : List Link) : Type 0 where
  pub before_known : (k : ℕ) → k < length ls → (get_or ls k no_link).before < 256
  pub after_known : (k : ℕ) → k < length ls → (get_or ls k no_link).after < 256

-- Each number is below 256.
abbrev pub Known : List Entry → Type 0
Known es = (k : ℕ) → k < length es → (entry_at es k).number < 256

-- r is set aside of a block of these entries, and nobody is if there is none without a piece after it.
abbrev pub Aside : (ℕ → ℕ → Bool) → List Entry → Maybe Entry → Type 0
Aside follows es r =
    (from work : ℕ)
    → set_aside follows (record { from = from; work = work; members = map meant es }) ≡ optional meant r

-- The first r are those that are not of that number.
pub record Without (es : List Entry) (number : ℕ) (left : List Entry) (r : ℕ) : Type 0 where
  pub rest : take r left ≡ keep (λ e. not (eqb e.number number)) es
  pub within : r ≤ length left

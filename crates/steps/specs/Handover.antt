-- What the links do to the tables of waits and of ready moments when the piece before them is finished.
use Prim.Native.Nat.{ℕ, zero, suc, ◌+◌, ◌-◌, ◌≤◌, ◌<◌, max}
use Rattle.std.specs.Prelude.{List, eqb, get_or, set}
use Rattle.rules.specs.Words.{when}

-- The links' tables, with the desks of the pieces; and the tables that the links change.
pub record Ties : Type 0 where
  pub desks : List ℕ
  pub befores : List ℕ
  pub afters : List ℕ
  pub handovers : List ℕ

abbrev pub ties : List ℕ → List ℕ → List ℕ → List ℕ → Ties
ties desks befores afters handovers =
    record { desks = desks; befores = befores; afters = afters; handovers = handovers }

pub record Waiting : Type 0 where
  pub waits : List ℕ
  pub ready : List ℕ

abbrev pub waiting : List ℕ → List ℕ → Waiting
waiting waits ready = record { waits = waits; ready = ready }

module _ (l : Ties) where
  -- The delay of link k: nothing on one desk.
  unfoldable pub delay_of : ℕ → ℕ
  unfolding when
  delay_of k =
      when (eqb (get_or l.desks (get_or l.befores k 0) 0) (get_or l.desks (get_or l.afters k 0) 0)) 0
      (get_or l.handovers k 0)

  -- The piece before link k was finished at moment c: the piece after waits for one less, and is ready no sooner than the
  -- delay allows.
  abbrev pub passed : ℕ → ℕ → Waiting → Waiting
  passed c k s =
      let a = get_or l.afters k 0 in
      record {
        waits = set s.waits a (get_or s.waits a 0 - 1);
        ready = set s.ready a (max (get_or s.ready a 0) (c + delay_of k));
      }

  -- Piece p was finished at moment c: the same for those of the first n links that are its own, from the last one back.
  unfoldable pub pass_from : ℕ → ℕ → ℕ → Waiting → Waiting
  unfolding when
  pass_from p c zero s = s
  pass_from p c (suc k) s = pass_from p c k (when (eqb (get_or l.befores k 0) p) (passed c k s) s)

  -- Piece i was worked on until moment c: nothing is passed on unless that finished it.
  unfoldable pub hand_on : ℕ → ℕ → List ℕ → ℕ → Waiting → Waiting
  unfolding when pass_from
  hand_on m c left i s = when (eqb (get_or left i 0) 0) (pass_from i c m s) s

  -- The same for the pieces that the first k of the desks that work chose.
  unfoldable pub hand_to : ℕ → ℕ → List ℕ → List ℕ → List ℕ → ℕ → Waiting → Waiting
  unfolding hand_on
  hand_to m c left chosen busy zero s = s
  hand_to m c left chosen busy (suc k) s =
      hand_on m c left (get_or chosen (get_or busy k 0) 0) (hand_to m c left chosen busy k s)

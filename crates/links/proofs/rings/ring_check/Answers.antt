-- `ring_check` meets its contract: all pieces are placed exactly if there is no ring.
use Prim.Native.Nat.{ℕ}
use mathlib.Core.Option.{some}
use mathlib.Core.Path.{◌≡◌, sym, ◌∙◌}
use native.Mathlib.Omega.{arith}
use Rattle.std.proofs.Common.{rules, Result, Ok, Err, OnOk}
use lib.ListN.{length, get_or-replicate}
use Rattle.rules.specs.Tables.{befores_of, afters_of}
use Rattle.rules.specs.Rings.{lowest_on_ring}
use Rattle.links.specs.Links.{follows, InOrder}
use Rattle.links.specs.Queue.{Net}
use Rattle.links.specs.Rings.{ring_at}
use Rattle.links.proofs.RingLaws.{order_free}
use Rattle.links.proofs.Placing.{all_placed, placed_short}
use Rattle.links.proofs.rings.ring_check.Goals.{After-pass_all}
use Rattle.links.proofs.rings.ring_check.Goals as goal

pub count_into-requires : goal.count_into-requires
count_into-requires c =
    let p = c.requires in
    record {
      few = p.ties.few_links;
      small = λ k l. omega (arith, p.ties.after_one k l, p.ties.few_pieces);
      cleared = λ i l. rw c.new-queue.ensures (get_or-replicate 256 i 0 0 l);
    }

pub pass_all-requires : goal.pass_all-requires
pass_all-requires c =
    let p = c.requires in
    record {
      net = record { pieces = c.args.pieces; ties = p.ties; chained = c.chain.ensures };
      queue = c.place_free.ensures;
    }

module _ (c : After-pass_all) where
  abbrev N : Net c.args.links.now c.chain.new.self
  N = record { pieces = c.args.pieces; ties = c.requires.ties; chained = c.chain.ensures }

  in_order : c.pass_all.new.self.placed ≡ c.args.pieces → InOrder c.args.pieces (length c.args.links.now)
      (befores_of c.args.links.now) (afters_of c.args.links.now) c.pass_all.new.self.order
  in_order = all_placed c.requires.ties c.place_free.ensures c.count_into.ensures
      (c.pass_all.ensures N c.place_free.ensures)

  some_left : (c.pass_all.new.self.placed ≡ c.args.pieces → ⊥) → (w : ℕ) × (lowest_on_ring
      (follows (length c.args.links.now) (befores_of c.args.links.now) (afters_of c.args.links.now)) c.args.pieces ≡ some w)
  some_left = placed_short c.requires.ties c.place_free.ensures c.count_into.ensures
      (c.pass_all.ensures N c.place_free.ensures)

pub returns-then-queue-pieces : goal.returns-then-queue-pieces
returns-then-queue-pieces c =
    let order = in_order (goal.at.returns-then-queue-pieces c).After-pass_all c.if-queue-pieces.true in
    record {
      found = sym (order_free _ _ _ _ _ c.requires.ties order);
      walkable = record { chained = c.chain.ensures; ordered = order };
    }

-- There is a ring, so the answer names a piece.
names_one : (P : Type 0) (r : Result Unit ℕ) (w : ℕ) → ring_at r ≡ some w → OnOk r P
names_one P (Ok _) w e = cc
names_one P (Err _) w e = search rules

pub returns : goal.returns
returns c =
    let s = some_left (goal.at.returns c).After-pass_all c.if-queue-pieces.false in
    record {
      found = c.lowest_on_ring.ensures;
      walkable = names_one _ c.lowest_on_ring.result s.0 (c.lowest_on_ring.ensures ∙ s.1);
    }

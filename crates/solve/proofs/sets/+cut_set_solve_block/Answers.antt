-- Cutting a set and solving a block meet their contracts together: the count of pieces falls. What is left to cut from
-- here gives the board of the whole set (`CutTo`).
use Rattle.std.proofs.Common.{arith, ◌+◌, ◌-◌, ◌≤◌, ◌<◌, ◌≡◌, ◌∙◌, length, take, drop}
use Rattle.std.proofs.lemmas.List.{length-drop, drop_all}
use borrow.Rule.Slice.PartMut.{same_len_mid, drop_put}
use Rattle.method.specs.Board.{whom}
use Rattle.blocksteps.specs.Listed.{Extends}
use Rattle.solve.proofs.Cutting.{no_block, next_block, solved_nobody, solved_by_cut, fewer, share_most}
use Rattle.solve.proofs.Cutting.{part_length, past_part, same_rest, listed-keep}
use Rattle.solve.proofs.sets.+cut_set_solve_block.Goals as goal

pub cut_set-loop-at-preserved : goal.cut_set-loop-at-preserved
cut_set-loop-at-preserved t c =
    let after = c.solve_block in
    let a = c.args in
    let s = c.loop-at in
    let es = a.entries.now in
    let n = c.gather_block-block.result.count in
    let over = c.gather_block-block.result.end in
    let x : Extends (drop s.at es) n over =
    rw (same_rest s.entries es s.at s.invariant.rest) at c.gather_block-block.ensures in
    let i : s.at + n ≤ length es = omega (arith, x.within, length-drop s.at es) in
    let l : length (take (s.at + n - s.at) (drop s.at s.entries)) ≡ n =
    part_length s.entries s.at n (omega (arith, s.invariant.sized)) in
    -- the part of the slice that `solve_block` was lent, as it left it
    let part = after.new.entries in
    let same = after.auto.entries in
    record {
      within = i;
      sized = same_len_mid s.at (s.at + n - s.at) s.entries part same ∙ s.invariant.sized;
      rest =
          drop_put s.at (s.at + n) s.entries part (omega arith) (omega (arith, s.invariant.sized))
          (same ∙ l ∙ omega arith)
          ∙ past_part s.entries es s.at n s.invariant.rest;
      few =
          omega (
            arith,
            l,
            i,
            x.some_one,
            c.give_slots.ensures.few,
            after.ensures.few,
            s.invariant.few,
            share_most a.aside,
          );
      board = λ f h.
          next_block a.links.now s.entries es s.at n over f a.aside a.end s.t s.invariant.rest
          _ _ _ x c.give_slots.ensures.given after.ensures.solved_onto (omega (arith, l))
          ∙ s.invariant.board f h;
    }

pub cut_set-returns-clause-cut_onto : goal.cut_set-returns-clause-cut_onto
cut_set-returns-clause-cut_onto t c f h =
    let a = c.args in
    let s = c.loop-at in
    c.give_slots-2.ensures.given
    ∙ no_block _ f (whom a.aside) a.end (drop s.at a.entries.now) s.t _
    (drop_all s.at a.entries.now (omega (arith, s.invariant.sized)))
    ∙ s.invariant.board f h

pub solve_block-returns-in_default-clause-solved_onto :
    goal.solve_block-returns-in_default-clause-solved_onto
solve_block-returns-in_default-clause-solved_onto t c f work h e =
    solved_nobody c.args.links.now c.args.entries.now c.args.from work f _
    (rw c.in_default.is at c.set_aside.ensures)

pub solve_block-cut_set-requires : goal.solve_block-cut_set-requires
solve_block-cut_set-requires t c =
    let a = c.args in
    let es = a.entries.now in
    let p = c.requires in
    let w = c.without-left.ensures in
    let r = c.in-Some.aside in
    let l : length (take c.without-left.result c.without-left.new.entries) < length es =
    rw w.rest (fewer a.links.now es r (rw c.in-Some.is at c.set_aside.ensures)) in (
      omega (arith, l, c.decreases),
      record {
        links = p.links;
        listed = rw w.rest (listed-keep es _ p.listed);
        room = omega (arith, l, p.room);
      },
    )

pub solve_block-returns-clause-few : goal.solve_block-returns-clause-few
solve_block-returns-clause-few t c =
    let a = c.args in
    let es = a.entries.now in
    let w = c.without-left.ensures in
    let l : length (take c.without-left.result c.without-left.new.entries) < length es =
    rw w.rest (fewer a.links.now es c.in-Some.aside (rw c.in-Some.is at c.set_aside.ensures)) in
    omega (arith, l, c.cut_set.ensures.few)

pub solve_block-returns-clause-solved_onto : goal.solve_block-returns-clause-solved_onto
solve_block-returns-clause-solved_onto t c f work h e =
    let a = c.args in
    solved_by_cut a.links.now a.entries.now c.in-Some.aside (rw c.in-Some.is at c.set_aside.ensures) a.from work f
    _ a.end _ _ c.without-left.ensures.rest h e c.cut_set.ensures.cut_onto

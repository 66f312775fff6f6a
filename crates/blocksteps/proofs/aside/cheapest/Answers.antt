-- `cheapest` meets its contract: the best of the entries behind is known, and with those in front it is the best of all.
use Rattle.std.proofs.Common.{◌≡◌, ◌<◌, List, [], ◌∷◌, ◌++◌, length, sym, rules}
use Rattle.std.specs.Option.{option_copied}
use denote.Enum.Bare.{same_true, same_false}
use Rattle.entries.specs.declared.list.Entry.{Entry}
use Rattle.blocksteps.specs.contracts.aside.Mark.{the_type}
use Rattle.blocksteps.specs.declared.aside.Mark.TheVariants.{Member}
use Rattle.blocksteps.proofs.Chosen.{Front, front_all, front_less, last_at, last_within, best_of_none, best_take}
use Rattle.blocksteps.proofs.Chosen.{best_skip, best_of_all}
use Rattle.blocksteps.specs.Aside.{Known}
use Rattle.blocksteps.proofs.aside.cheapest.Goals as goal

-- Its number is known.
known_last : (es before front : List Entry) (e : Entry) → Known es → Front before es → before ≡ front ++ (e ∷ [])
    → e.number < 256
known_last es before front e known f h =
    rw (last_at before front es e f h) at (known (length front) (last_within before front es e f h))

pub loop-entry-init : goal.loop-entry-init
loop-entry-init c =
    let all : c.into_iter-entry-iterator.result.iter.rest.now ≡ c.args.entries.now =
    cc (c.iter.ensures.rest, c.rev-entry-items.ensures.source, c.into_iter-entry-iterator.ensures.into_iter_gives) in
    (front_all _ _ all, λ follows h. best_of_none follows c.args.entries.now _ all)

pub loop-entry-preserved-then-eq : goal.loop-entry-preserved-then-eq
loop-entry-preserved-then-eq c =
    let s = c.loop-entry in
    let es = c.args.entries.now in
    let before = s.entry-iterator.iter.rest.now in
    let front = c.next.new.self.iter.rest.now in
    let e = c.in-Some.entry.now in
    let split = c.in-Some.ensures.steps in (
      front_less before front es e s.invariant.0 split,
      λ follows h. best_take follows es _ h before front e s.invariant.0 split
          (known_last es before front e c.requires s.invariant.0 split) (option_copied s.best) (s.invariant.1 follows h)
          c.cheaper.result.now (rw c.from.ensures at (same_true the_type (search rules) _ Member (sym c.if-eq.ensures)))
          c.cheaper.ensures,
    )

pub loop-entry-preserved : goal.loop-entry-preserved
loop-entry-preserved c =
    let s = c.loop-entry in
    let es = c.args.entries.now in
    let before = s.entry-iterator.iter.rest.now in
    let front = c.next.new.self.iter.rest.now in
    let e = c.in-Some.entry.now in
    let split = c.in-Some.ensures.steps in (
      front_less before front es e s.invariant.0 split,
      λ follows h. best_skip follows es _ h before front e s.invariant.0 split
          (known_last es before front e c.requires s.invariant.0 split) (option_copied s.best) (s.invariant.1 follows h)
          (rw c.from.ensures at (same_false the_type _ Member (sym c.if-eq.ensures))),
    )

pub returns : goal.returns
returns c follows h =
    let s = c.loop-entry in
    rw c.copied.ensures (best_of_all follows c.args.entries.now s.entry-iterator.iter.rest.now (option_copied s.best)
    (s.invariant.1 follows h) c.in-None.ensures.steps.0)

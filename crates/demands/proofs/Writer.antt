-- What the writer writes: the reader gives it back, the bytes after it stay, and a good form without room for its file is
-- refused by 14.
use Prim.Native.Nat.{ℕ, ◌+◌, ◌%◌, ◌≤◌, ◌<◌}
use mathlib.Core.List.{List, ◌++◌}
use mathlib.Core.Path.{◌≡◌, refl, sym, ap, ◌∙◌}
use native.Mathlib.Omega.{arith}
use borrow.Author.Tests.{lt-ltb, le-ltb, ltb-true, ltb-false}
use lib.Dec.{ltb, eqb}
use lib.ListN.{length, take, drop}
use lib.Seq.{take_at, drop_at}
use Rattle.rules.specs.Words.{when}
use Rattle.rules.specs.Job.{Job, Outcome, refused, accepted, empty_job}
use Rattle.rules.specs.Reading.{read_job}
use Rattle.rules.specs.Tables.{Sound}
use Rattle.rules.specs.Judgement.{then_judge}
use Rattle.rules.specs.Writing.{file_of}
use Rattle.rules.specs.Plan.{at_front}
use Rattle.rules.specs.Form.{form_job, offers, take_all, unless_cut, unless_no_room, form_outcome, write_outcome}
use Rattle.rules.specs.Form.{write_answer_of, write_buffer_of, write_answer, write_buffer}
use Rattle.laws.proofs.Words.{by_test, when_true, when_false}
use Rattle.laws.proofs.Reading.{accepted_inj}
use Rattle.laws.proofs.Offers.{taken_whole, taken_sound, sound_taken}
use Rattle.laws.proofs.Reread.{file_read}
use Rattle.demands.proofs.Answers.{OnList, Refuses}
use Rattle.demands.proofs.FormRefusals.{Whole, is_refused, form_rows, form_refuses, write_refuses}

-- What it is to be accepted.
then_accepted : (o : Outcome) (further : Job → Outcome) (K : Job) → then_judge o further ≡ accepted K
    → (J : Job) × (o ≡ accepted J) × (further J ≡ accepted K)
unfolding then_judge
then_accepted (refused r) further K h = let z : ◌≡◌ {A = ℕ} 1 0 = ap is_refused h in absurd (omega arith)
then_accepted (accepted J) further K h = (J, refl, h)

module _ (pieces links : List ℕ) where
  abbrev F : Job
  F = form_job pieces links

  module _ (buffer : List ℕ) where
    -- A form that is written: it is sound, and there is room for its file.
    pub record Written : Type 0 where
      pub says : write_outcome pieces links (length buffer) ≡ accepted F
      pub sound : Sound F
      pub room : length (file_of F) ≤ length buffer

    not-cut : (J K : Job) → unless_cut pieces links J ≡ accepted K → J ≡ K
    unfolding unless_cut when
    not-cut J K = by_test (eqb (length pieces % 4 + length links % 3) 0)
        (λ e. rw (e, when) (λ h. accepted_inj J K h))
        (λ e. rw (e, when) (λ h. let z : ◌≡◌ {A = ℕ} 1 0 = ap is_refused h in absurd (omega arith)))

    enough : (J K : Job) → unless_no_room (length buffer) J ≡ accepted K → (J ≡ K) × (length (file_of J) ≤ length buffer)
    unfolding unless_no_room when
    enough J K = by_test (ltb (length buffer) (length (file_of J)))
        (λ e. rw (e, when) (λ h. let z : ◌≡◌ {A = ℕ} 1 0 = ap is_refused h in absurd (omega arith)))
        (λ e. rw (e, when) (λ h. (accepted_inj J K h, ltb-false (length buffer) (length (file_of J)) e)))

    form_accepted : (J : Job) → form_outcome pieces links ≡ accepted J → (F ≡ J) × Sound F
    unfolding form_outcome
    form_accepted J h =
        let b = then_accepted (take_all (offers F) 0 empty_job) (unless_cut pieces links) J h in
        (taken_whole F b.0 b.1 ∙ not-cut b.0 J b.2, taken_sound F b.0 b.1)

    accepted_written : (K : Job) → write_outcome pieces links (length buffer) ≡ accepted K → Written
    unfolding write_outcome
    accepted_written K h =
        let a = then_accepted (form_outcome pieces links) (unless_no_room (length buffer)) K h in
        let form = form_accepted a.0 a.1 in
        let last = enough a.0 K a.2 in
        record {
          says = h ∙ ap accepted (sym (form.0 ∙ last.0));
          sound = form.1;
          room = omega (arith, last.1, ap (λ J. length (file_of J)) form.0);
        }

    pub zero_written : (write_answer pieces links buffer).number ≡ 0 → Written
    unfolding write_answer write_answer_of Refuses OnList
    zero_written h = go (write_outcome pieces links (length buffer)) refl (write_refuses pieces links (length buffer)) h
      where
        go : (o : Outcome) → write_outcome pieces links (length buffer) ≡ o → Refuses 14 o → (write_answer_of o).number ≡ 0
            → Written
        go (refused r) e on z = absurd (omega (arith, on.0, z))
        go (accepted K) e on z = accepted_written K e

    module _ (w : Written) where
      pub answer_is : write_answer pieces links buffer ≡ record { number = 0; place = 0; bytes = length (file_of F) }
      unfolding write_answer write_answer_of
      answer_is = ap write_answer_of w.says

      pub buffer_is : write_buffer pieces links buffer ≡ file_of F ++ drop (length (file_of F)) buffer
      unfolding write_buffer write_buffer_of at_front
      buffer_is = ap (λ o. write_buffer_of o buffer) w.says

    -- WHAT IT WROTE, THE READER GIVES BACK.
    pub what_it_wrote_is_read_back : (write_answer pieces links buffer).number ≡ 0
        → read_job (take (write_answer pieces links buffer).bytes (write_buffer pieces links buffer)) ≡ accepted F
    what_it_wrote_is_read_back h =
        let w = zero_written h in
        ap (λ k. read_job (take k (write_buffer pieces links buffer))) (ap (λ a. a.bytes) (answer_is w))
        ∙ ap (λ s. read_job (take (length (file_of F)) s)) (buffer_is w)
        ∙ ap read_job (take_at (file_of F) (drop (length (file_of F)) buffer) (length (file_of F)) refl)
        ∙ file_read F w.sound

    -- BYTES AFTER THE FILE STAY.
    pub bytes_after_the_file_stay : (write_answer pieces links buffer).number ≡ 0
        → drop (write_answer pieces links buffer).bytes (write_buffer pieces links buffer)
        ≡ drop (write_answer pieces links buffer).bytes buffer
    bytes_after_the_file_stay h =
        let w = zero_written h in
        ap (λ k. drop k (write_buffer pieces links buffer)) (ap (λ a. a.bytes) (answer_is w))
        ∙ ap (λ s. drop (length (file_of F)) s) (buffer_is w)
        ∙ drop_at (file_of F) (drop (length (file_of F)) buffer) (length (file_of F)) refl
        ∙ sym (ap (λ k. drop k buffer) (ap (λ a. a.bytes) (answer_is w)))

    -- 14 EXACTLY IF the form is good and the room too short for its file.
    pub only_no_room_is_14 : (write_answer pieces links buffer).number ≡ 14 → Sound F × (length buffer < length (file_of F))
    unfolding write_answer write_outcome write_answer_of then_judge unless_no_room when Refuses OnList
    only_no_room_is_14 h = go (form_outcome pieces links) refl (form_refuses pieces links) h
      where
        short : (J : Job) → (write_answer_of (unless_no_room (length buffer) J)).number ≡ 14 → length buffer < length (file_of J)
        short J = by_test (ltb (length buffer) (length (file_of J)))
            (λ e k. ltb-true (length buffer) (length (file_of J)) e)
            (λ e. rw (e, when) (λ k. absurd (omega (arith, k))))

        go : (o : Outcome) → form_outcome pieces links ≡ o → Refuses 10 o
            → (write_answer_of (then_judge o (unless_no_room (length buffer)))).number ≡ 14
            → Sound F × (length buffer < length (file_of F))
        go (refused r) e on k = absurd (omega (arith, on.1, k))
        go (accepted J) e on k =
            let form = form_accepted J e in
            (form.1, omega (arith, short J k, ap (λ K. length (file_of K)) form.0))

    pub no_room_is_14 : Whole pieces links → Sound F → length buffer < length (file_of F)
        → write_answer pieces links buffer ≡ record { number = 14; place = 0; bytes = 0 }
    unfolding write_answer write_outcome unless_no_room write_answer_of then_judge
    no_room_is_14 whole sound short =
        ap (λ o. write_answer_of (then_judge o (unless_no_room (length buffer))))
        (form_rows pieces links whole ∙ sound_taken F sound)
        ∙ ap write_answer_of (when_true _ _ _ (lt-ltb (length buffer) (length (file_of F)) short))

    pub good_is_written : Whole pieces links → Sound F → length (file_of F) ≤ length buffer → Written
    unfolding write_outcome unless_no_room then_judge
    good_is_written whole sound room = record {
      says =
          ap (λ o. then_judge o (unless_no_room (length buffer))) (form_rows pieces links whole ∙ sound_taken F sound)
          ∙ when_false _ _ _ (le-ltb (length buffer) (length (file_of F)) room);
      sound = sound;
      room = room;
    }

-- One judgement after another, in the page's order: a fault decides, and where there is none the later judgement does.
use Rattle.std.specs.Prelude.{ℕ, List, ◌≡◌}
use Rattle.std.proofs.Common.{rules, ap, sym, ◌∙◌}
use Rattle.rules.specs.File.{Kind}
use Rattle.rules.specs.Job.{Job}
use Rattle.rules.specs.Told.{number_of}
use Rattle.rules.specs.Reading.{first_fault, kind_fault, order_fault, value_fault, zero_fault, record_fault}
use Rattle.rules.specs.declared.fault.Fault.{Fault}

-- A fault has a number on the list.
pub is_fault : (fault : Fault) → number_of fault ≡ 0 → ⊥
is_fault fault e = search rules

pub decides : (fault : Fault) (n later : ℕ) → number_of fault ≡ n → number_of fault ≡ first_fault n later
unfolding first_fault
decides fault n later e = search rules

pub passes : (n later m : ℕ) → 0 ≡ n → m ≡ later → m ≡ first_fault n later
unfolding first_fault
passes n later m e q = q ∙ ap (λ k. first_fault k later) e

-- A record of known kind: its fault is found among its order, then its values, then its zero bytes.
module _ (kind : Kind) (J : Job) (r : List ℕ) (known : kind_fault kind ≡ 0) where
  pub at_order : (fault : Fault) → number_of fault ≡ order_fault kind J → number_of fault ≡ record_fault kind J r
  unfolding record_fault
  at_order fault o = passes _ _ _ (sym known) (decides fault _ _ o)

  module _ (fine : 0 ≡ order_fault kind J) where
    pub at_values : (fault : Fault) → number_of fault ≡ value_fault kind J r → number_of fault ≡ record_fault kind J r
    unfolding record_fault
    at_values fault v = passes _ _ _ (sym known) (passes _ _ _ fine (decides fault _ _ v))

    pub at_zeros : (n : ℕ) → 0 ≡ value_fault kind J r → n ≡ zero_fault kind r → n ≡ record_fault kind J r
    unfolding record_fault
    at_zeros n v z = passes _ _ _ (sym known) (passes _ _ _ fine (passes _ _ _ v z))

-- The counts over the records of a trace: a turn of the loop, a refusal, and the end. Assumes nothing.
use mathlib.Core.List.{List, [], ◌∷◌}
use mathlib.Core.Path.{◌≡◌, sym, ap, ◌∙◌}
use Prim.Native.Nat.{ℕ}
use borrow.Author.Tests.{ne_eqb}
use Rattle.evc_mc.specs.declared.EvcPredicted.{EvcPredicted}
use Rattle.evc_counts.specs.Counts.{nothing_counted, ◌plus◌, counts_of}
use Rattle.evc_counts.specs.declared.MovedCounts.{MovedCounts}
use Rattle.evc_counts.proofs.Counts.{plus_assoc, plus_nothing}
use Rattle.evc_record.specs.Record.{Source, record_code, record_answer}
use Rattle.evc_replay.specs.Counts.{record_counts, finished, counted_over}

-- those of the finished ones of these records
abbrev pub counts_over : Source → List (List ℕ) → MovedCounts
counts_over e l = counted_over e (finished e l)

-- ---- one record more

pub finished_more : (e : Source) (s : List ℕ) (rest : List (List ℕ)) → record_code e s ≡ 0 → finished e (s ∷ rest) ≡ s ∷ finished e rest
unfolding finished
finished_more e s rest z = rw z

pub finished_none : (e : Source) (s : List ℕ) (rest : List (List ℕ)) (c : ℕ) → c ≡ record_code e s → (c ≡ 0 → ⊥) → finished e (s ∷ rest) ≡ []
unfolding finished
finished_none e s rest c e' n = rw (sym e', ne_eqb c 0 n)

counted_more : (e : Source) (s : List ℕ) (rest : List (List ℕ)) → record_code e s ≡ 0 → counted_over e (finished e (s ∷ rest)) ≡ record_counts e s plus counted_over e (finished e rest)
unfolding counted_over
counted_more e s rest z = ap (counted_over e) (finished_more e s rest z)

counted_none : (e : Source) (s : List ℕ) (rest : List (List ℕ)) (c : ℕ) → c ≡ record_code e s → (c ≡ 0 → ⊥) → counted_over e (finished e (s ∷ rest)) ≡ nothing_counted
unfolding counted_over
counted_none e s rest c e' n = ap (counted_over e) (finished_none e s rest c e' n)

module _ (e : Source) (c : MovedCounts) where
  module _ (s : List ℕ) (rest : List (List ℕ)) where
    pub counted_on : record_code e s ≡ 0 → (p : EvcPredicted) → p ≡ record_answer e s → (c' : MovedCounts) → c' ≡ c plus (counts_of p.moved0 plus counts_of p.moved1) → c' plus counts_over e rest ≡ c plus counts_over e (s ∷ rest)
    counted_on z p ep c' ec =
        let ec' : c' ≡ c plus record_counts e s = ec ∙ ap (λ (p : EvcPredicted). c plus (counts_of p.moved0 plus counts_of p.moved1)) ep in
        ap (λ (d : MovedCounts). d plus counts_over e rest) ec'
        ∙ plus_assoc c (record_counts e s) (counts_over e rest)
        ∙ ap (λ (d : MovedCounts). c plus d) (sym (counted_more e s rest z))

    pub counted_stop : (k : ℕ) → k ≡ record_code e s → (k ≡ 0 → ⊥) → c ≡ c plus counts_over e (s ∷ rest)
    counted_stop k ek n = sym (ap (λ (d : MovedCounts). c plus d) (counted_none e s rest k ek n) ∙ plus_nothing c)

  pub counted_end : c ≡ c plus counts_over e []
  unfolding finished counted_over
  counted_end = sym (plus_nothing c)

-- the counts that a default has
pub none_is : (c : MovedCounts) → (c.across_low ≡ 0) × ((c.across_high ≡ 0) × ((c.down_low ≡ 0) × (c.down_high ≡ 0))) → c ≡ nothing_counted
none_is c e = rw (e.0, e.1.0, e.1.1.0, e.1.1.1)

use Rattle.std.proofs.Common.{◌≡◌, ◌∙◌, false, refl, sym, true}
use Rattle.csv.specs.Records.{fields_of}
use Rattle.text_expected.proofs.Places.{none_read, of_one, of_two}
use Rattle.text_expected.proofs.comparing.read_both.Goals as goal

pub returns-in-true-true-clause-steps : goal.returns-in-true-true-clause-steps
returns-in-true-true-clause-steps c = λ xs ys left rest.
    of_two c.step_of.result xs ys c.in_ok-one.one c.in_ok-other.other (fields_of c.next.new.row) (fields_of c.next-2.new.row)
    (record { expected = c.next.new.records; found = c.next-2.new.records; expected_row = c.next.new.row; found_row = c.next-2.new.row })
    c.in-true-true.is-0 c.in-true-true.is-1 (c.in_ok-one.ensures.takes xs left) (c.in_ok-other.ensures.takes ys rest) refl refl c.step_of.ensures

pub returns-in-false-false-clause-steps : goal.returns-in-false-false-clause-steps
returns-in-false-false-clause-steps c = λ xs ys left rest. (
  none_read xs c.in_ok-one.one _ _ c.in-false-false.is-0 (c.in_ok-one.ensures.takes xs left),
  none_read ys c.in_ok-other.other _ _ c.in-false-false.is-1 (c.in_ok-other.ensures.takes ys rest),
)

pub returns-in-true-false-clause-steps : goal.returns-in-true-false-clause-steps
returns-in-true-false-clause-steps c = λ xs ys left rest.
    of_one xs ys c.in_ok-one.one c.in_ok-other.other (fields_of c.next.new.row) (fields_of c.next-2.new.row)
    (record { expected = c.next.new.records; found = c.next-2.new.records; expected_row = c.next.new.row; found_row = c.next-2.new.row })
    (λ e. let bad : true ≡ false = sym c.in-true-false.is-0 ∙ e ∙ c.in-true-false.is-1 in cc)
    (c.in_ok-one.ensures.takes xs left) (c.in_ok-other.ensures.takes ys rest) refl refl

pub returns-in-true-false-2-clause-steps : goal.returns-in-true-false-2-clause-steps
returns-in-true-false-2-clause-steps c = λ xs ys left rest.
    of_one xs ys c.in_ok-one.one c.in_ok-other.other (fields_of c.next.new.row) (fields_of c.next-2.new.row)
    (record { expected = c.next.new.records; found = c.next-2.new.records; expected_row = c.next.new.row; found_row = c.next-2.new.row })
    (λ e. let bad : false ≡ true = sym c.in-true-false.is-0 ∙ e ∙ c.in-true-false.is-1 in cc)
    (c.in_ok-one.ensures.takes xs left) (c.in_ok-other.ensures.takes ys rest) refl refl

use Rattle.outcome_runs.proofs.laws.the_test_tells_what_is_found.Goals as goal

pub returns-clause-states : goal.returns-clause-states
returns-clause-states c = λ h program look ready kept of_program right. (
  c.what_may_be_found_is_found.ensures h program look ready kept of_program right,
  c.what_is_found_may_be_found.ensures h program look ready of_program,
)

pub returns-clause-scripts : goal.returns-clause-scripts
returns-clause-scripts c = λ geo script look valid of_program.
    let began = c.runs_keep_states.ensures.fresh geo valid in (
      c.what_may_be_found_is_found.ensures _ _ look began.0 began.1 of_program (c.scripts_bring_right.ensures script),
      c.what_is_found_may_be_found.ensures _ _ look began.0 of_program,
    )

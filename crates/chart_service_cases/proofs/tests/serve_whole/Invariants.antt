use Rattle.chart_service_cases.proofs.tests.serve_whole.Given as goal

abbrev pub ghosts-run : goal.ghosts-run
ghosts-run a = record { name = a.blank.name; parts = a.blank.parts }

use Rattle.test_scripts.proofs.echo.scripts.play_by_four.Given as goal

-- the idle time of all rows
abbrev pub ghost-run_pool : goal.ghost-run_pool
ghost-run_pool g a = 100

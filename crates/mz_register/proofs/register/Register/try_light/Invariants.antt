use Rattle.mz_register.proofs.register.Register.try_light.Given as goal

abbrev pub ghosts-try_light_as : goal.ghosts-try_light_as
ghosts-try_light_as g a = record { block = a.b; slot = a.j }

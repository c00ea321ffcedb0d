use Rattle.mz_register.proofs.register.Register.free_light.Given as goal

abbrev pub ghosts-free_light_as : goal.ghosts-free_light_as
ghosts-free_light_as g a = record { block = a.b; slot = a.j }

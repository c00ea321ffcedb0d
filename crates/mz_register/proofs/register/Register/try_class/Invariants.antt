use Rattle.mz_register.proofs.register.Register.try_class.Given as goal

abbrev pub ghosts-try_class_as : goal.ghosts-try_class_as
ghosts-try_class_as g a = record { block = a.b; slot = 0 }

mod ByteLemmas
mod CalmLemmas
mod MadeLemmas
mod MomentLemmas
mod DutyLemmas
mod HandLemmas
mod LaterLemmas

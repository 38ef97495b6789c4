mod Phases
mod Roots

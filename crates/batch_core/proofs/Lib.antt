mod BatchCompleteness
mod BatchOutcomes
mod BatchReadings
mod BatchTexts
mod ShareLemmas
mod SlotLemmas
mod WorkerLemmas
mod Writing

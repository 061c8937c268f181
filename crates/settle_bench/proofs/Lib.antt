mod SectionLemmas
mod WatchLemmas

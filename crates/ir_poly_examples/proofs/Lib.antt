mod Matches
mod Tests

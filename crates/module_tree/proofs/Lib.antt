mod Derived
